pub mod Pending
pub mod Lines
pub mod Shapes
