pub mod Components
pub mod Formats
pub mod Prelude
pub mod Sums
pub mod WorkedFormats
