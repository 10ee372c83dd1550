pub mod Format
pub mod Interleaved
pub mod Pending
pub mod Prelude
pub mod SemiPlanar
pub mod WorkedLayouts
