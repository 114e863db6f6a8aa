pub mod Part
pub mod Names
pub mod Look
pub mod Form
