pub mod Promises
pub mod Asks
pub mod Reach
pub mod Measured
pub mod Alike
pub mod Messages
