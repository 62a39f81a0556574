pub mod Codes
pub mod Asked
pub mod Alike
pub mod Messages
