pub mod Repeated
pub mod Depths
pub mod Halves
pub mod Made
pub mod PairMeans
pub mod Ranges
pub mod Scaled
pub mod ScaledTables
