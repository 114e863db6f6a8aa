pub mod Close
pub mod Contexts
pub mod Turns
pub mod Weights
pub mod Stacking
pub mod Keeping
