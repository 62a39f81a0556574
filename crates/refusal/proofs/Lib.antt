pub mod Numbers
pub mod Chain
pub mod Foremost
pub mod Accepted
pub mod Given
pub mod Within
pub mod Passed
