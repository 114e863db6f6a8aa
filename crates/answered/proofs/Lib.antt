pub mod Judgements
mod Linking
pub mod Existence
pub mod Entries
pub mod Names
pub mod Rules
pub mod Arrays
pub mod Bytes
pub mod Literals
pub mod Holding
pub mod Answered
