pub mod Fresh
pub mod Admission
