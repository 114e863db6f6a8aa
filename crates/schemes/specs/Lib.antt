pub mod Schemes
pub mod Reads
pub mod Lines
pub mod Pairs
pub mod Stored
