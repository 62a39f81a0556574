pub mod Texts
pub mod Keeping
pub mod RoundTrip
pub mod Fitting
