pub mod Lists
pub mod Called
pub mod Ready
pub mod Stored
