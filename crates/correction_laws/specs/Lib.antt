pub mod Few
pub mod Named
pub mod Several
