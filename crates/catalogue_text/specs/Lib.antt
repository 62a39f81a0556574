pub mod Text
pub mod Parsing
pub mod Writing
pub mod Numbers
