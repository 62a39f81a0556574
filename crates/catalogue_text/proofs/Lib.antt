pub mod TextParts
pub mod FirstLines
pub mod SumLine
pub mod Ends
pub mod CatalogueLines
pub mod Faults
pub mod RoundTrip
pub mod Numbers
