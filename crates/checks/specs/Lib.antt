pub mod Children
pub mod Standing
pub mod Marks
pub mod Refused
pub mod Taken
