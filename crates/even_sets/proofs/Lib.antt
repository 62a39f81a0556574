pub mod Blocks
pub mod SetBytes
pub mod Fits
