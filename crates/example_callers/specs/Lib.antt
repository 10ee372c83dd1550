pub mod Answers
pub mod Filters
pub mod Rectangles
pub mod RowPairs
pub mod Streams
pub mod WorkedFilters
