pub mod Accepted
pub mod Filling
pub mod Turns
pub mod Front
pub mod Same
pub mod Under
