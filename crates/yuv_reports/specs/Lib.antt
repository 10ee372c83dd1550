pub mod Frames
pub mod Histograms
pub mod Samples
pub mod Sums
pub mod Texts
pub mod Worked
