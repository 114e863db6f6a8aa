pub mod Parting
pub mod Bounds
pub mod Spelling
pub mod Reading
pub mod RoundTrip
