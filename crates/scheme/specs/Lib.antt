pub mod Scheme
pub mod Laws
pub mod Reach
pub mod Asked
pub mod Asks
