pub mod Bytes
pub mod Tables
pub mod RowRuns
pub mod Firsts
