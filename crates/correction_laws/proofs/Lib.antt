pub mod Store
pub mod Totals
pub mod Bytes
pub mod Few
pub mod Moved
pub mod Corrected
pub mod Several
pub mod Examples
