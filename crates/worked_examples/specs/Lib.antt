pub mod Cards
pub mod Turned
pub mod Rounds
