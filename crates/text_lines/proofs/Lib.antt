pub mod DigitTexts
pub mod Decimal
pub mod Numerals
pub mod Begins
pub mod NumberLines
pub mod Taken
pub mod RoundTrip
