pub mod Sweeping
pub mod Gathering
pub mod Fixing
pub mod Linkage
