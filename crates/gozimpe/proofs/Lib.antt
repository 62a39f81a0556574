pub mod Signed
pub mod Outcomes
pub mod Host
pub mod TextCorrections
pub mod Numbers
