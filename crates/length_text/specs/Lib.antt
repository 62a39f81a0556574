pub mod LengthLines
