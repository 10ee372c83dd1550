-- Rows that are written into the buffer of a plane: the buffer stays whole, and the table has the new rows.
pub mod Kept
pub mod RowPairs
pub mod RowWrites
pub mod VisibleRegions
pub mod VisibleWrites
