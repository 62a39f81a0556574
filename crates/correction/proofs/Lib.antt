pub mod Bytes
pub mod Local
pub mod Verdicts
pub mod Calls
