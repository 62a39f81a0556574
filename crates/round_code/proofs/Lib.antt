pub mod LastDigits
pub mod ShortKeys
pub mod Fits
pub mod RowParts
pub mod Starts
pub mod Blocks
