pub mod Even
pub mod Asked
