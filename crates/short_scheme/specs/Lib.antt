pub mod Short
pub mod Rows
pub mod Asked
