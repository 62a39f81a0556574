pub mod Bounds
pub mod Table
pub mod Measures
