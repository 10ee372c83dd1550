pub mod Counted
pub mod Pending
pub mod Planar
pub mod Shown
pub mod Video
pub mod WorkedVideo
