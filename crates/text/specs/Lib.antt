pub mod Begins
pub mod Loads
