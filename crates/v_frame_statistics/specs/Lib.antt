pub mod Count
pub mod Extremes
pub mod Histogram
pub mod PairSums
pub mod Prelude
pub mod RowSums
pub mod Sums
pub mod WorkedStatistics
