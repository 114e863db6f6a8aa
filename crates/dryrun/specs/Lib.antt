pub mod Expression
pub mod Transition
pub mod Run
pub mod Free
pub mod Entry
