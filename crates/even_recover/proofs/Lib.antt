pub mod Held
pub mod Groups
pub mod GroupParts
pub mod Sized
pub mod Fetched
pub mod Started
pub mod Servers
