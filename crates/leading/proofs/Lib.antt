pub mod Lams
pub mod Numbers
pub mod Going
pub mod Underway
