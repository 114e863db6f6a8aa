pub mod Tests
pub mod Refusals
pub mod Passed
pub mod Marking
pub mod Linkage
