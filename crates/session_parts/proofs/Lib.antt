pub mod Marks
pub mod Metering
