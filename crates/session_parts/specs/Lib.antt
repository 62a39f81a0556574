pub mod Marks
pub mod Meters
pub mod Places
