pub mod Blocks
pub mod Covers
pub mod Filled
pub mod Requests
pub mod Sizes
pub mod Stops
