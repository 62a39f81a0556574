pub mod Verdicts
pub mod Numbers
pub mod Foremost
pub mod Chain
pub mod Within
