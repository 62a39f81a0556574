pub mod Sum
pub mod Group
pub mod Xor
pub mod Words
pub mod Operations
