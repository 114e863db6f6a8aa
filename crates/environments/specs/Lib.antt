pub mod Standing
pub mod Weights
pub mod Frames
pub mod Kept
