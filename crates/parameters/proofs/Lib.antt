pub mod Bounds
pub mod Powers
pub mod Table
pub mod SmallSizes
