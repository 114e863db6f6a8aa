pub mod Feeding
pub mod Ends
pub mod Passes
pub mod OnePass
