pub mod Starting
pub mod Answering
