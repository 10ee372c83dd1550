pub mod CenterLemmas
pub mod PartLemmas
pub mod PixelsWritten
pub mod RowWritten
pub mod Sums
pub mod Weights
