pub mod Appended
pub mod Charted
pub mod Extents
pub mod Floats
pub mod Marked
pub mod Pushed
