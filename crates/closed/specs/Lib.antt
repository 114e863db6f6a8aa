pub mod Members
pub mod Reads
pub mod Decides
