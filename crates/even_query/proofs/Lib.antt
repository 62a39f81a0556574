pub mod Steps
pub mod Entries
pub mod Rows
pub mod Whole
