-- The block of memory in which a buffer is stored.
pub mod BlockCrosses
pub mod BlockEntries
pub mod BlockKept
pub mod BlockLent
pub mod BlockParts
pub mod BlockRooms
