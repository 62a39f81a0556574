pub mod Moved
pub mod Correction
pub mod Calls
