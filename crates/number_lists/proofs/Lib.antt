pub mod Spaced
pub mod Reading
pub mod Scanning
pub mod Filling
