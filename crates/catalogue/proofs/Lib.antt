pub mod Admitted
pub mod Faults
pub mod Verdicts
pub mod Season
