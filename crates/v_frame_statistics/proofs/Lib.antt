pub mod ListSums
pub mod Extremal
pub mod HistogramSteps
pub mod PairSteps
pub mod SumSteps
