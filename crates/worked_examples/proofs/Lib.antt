pub mod Cards
pub mod Runs
pub mod Counting
pub mod Turned
pub mod Rounds
