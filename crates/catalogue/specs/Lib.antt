pub mod Catalogue
pub mod Days
