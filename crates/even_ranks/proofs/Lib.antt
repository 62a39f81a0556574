pub mod Counters
pub mod Ranking
pub mod Placed
pub mod Cells
pub mod Walk
pub mod Steps
