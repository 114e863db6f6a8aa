pub mod Same
pub mod Numbers
pub mod Words
pub mod Front
pub mod Examples
