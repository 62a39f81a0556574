pub mod Reach
pub mod Places
