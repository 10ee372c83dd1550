pub mod Entries
pub mod Exchanged
pub mod Flipped
pub mod Quarters
pub mod RowPairs
pub mod Transposed
