pub mod Unit
pub mod Registers
