pub mod Restarting
pub mod Replying
pub mod Running
pub mod Conversing
pub mod Keeping
