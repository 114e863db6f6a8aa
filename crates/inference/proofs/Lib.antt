pub mod Judging
pub mod Floors
pub mod Follows
pub mod Corollaries
pub mod Contracts
pub mod Printing
pub mod Linkage
