pub mod Bits
pub mod Gathering
pub mod Scope
pub mod Walk
pub mod Answers
pub mod Linkage
