pub mod Checksums
pub mod Facts
pub mod Info
pub mod Inputs
pub mod Statistics
pub mod Values
pub mod WorkedFacts
