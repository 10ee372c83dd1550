-- The definitions that contracts of other crates use, re-exported from one module.
pub use Rattle.v_frame_statistics.specs.Count.{passing_pairs}
pub use Rattle.v_frame_statistics.specs.Extremes.{IsGreatest, IsLeast}
pub use Rattle.v_frame_statistics.specs.Histogram.{Counts, occurrences}
pub use Rattle.v_frame_statistics.specs.PairSums.{ArePairSums}
pub use Rattle.v_frame_statistics.specs.Sums.{sum_of_products, sum_of_squares, sum_of_values}
