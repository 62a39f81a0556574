pub mod Numbers
pub mod Unused
