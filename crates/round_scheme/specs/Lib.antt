pub mod Round
pub mod Once
pub mod Asked
