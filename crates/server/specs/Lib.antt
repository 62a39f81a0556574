pub mod Answering
pub mod Numbers
