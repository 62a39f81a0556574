pub mod RowLaws
pub mod Admission
pub mod SetRows
pub mod Turns
