pub mod Centers
pub mod Prelude
pub mod Resize
pub mod Spans
pub mod WorkedSizes
