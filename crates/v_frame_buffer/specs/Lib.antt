pub mod AlignedData
pub mod Block
pub mod BlockLends
pub mod Filling
pub mod Part
