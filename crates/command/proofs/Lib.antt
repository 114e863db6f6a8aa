pub mod Reading
pub mod Numbers
