pub mod Gathering
pub mod Places
pub mod Parts
pub mod Running
pub mod Made
