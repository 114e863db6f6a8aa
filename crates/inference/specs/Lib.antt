pub mod Outcome
pub mod Ran
pub mod Printed
pub mod Judges
