pub mod Arrays
pub mod Seeking
pub mod Tops
pub mod Rows
pub mod Rounding
pub mod Applying
pub mod Calculating
pub mod Operating
