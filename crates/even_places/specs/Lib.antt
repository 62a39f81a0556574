pub mod Rule
pub mod Counting
