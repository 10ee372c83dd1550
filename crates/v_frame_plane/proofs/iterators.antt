-- Iterators that read, seen as lists of the remaining items.
pub mod BegunPixels
pub mod BegunRows
pub mod Cursors
pub mod WalkRuns
