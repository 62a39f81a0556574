pub mod Checks
pub mod Holding
