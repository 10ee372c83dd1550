-- The definitions that contracts of other crates use, re-exported from one module.
pub use Rattle.v_frame_measures.specs.Differences.{IsGreatestDifference, PixelsDifferAt}
pub use Rattle.v_frame_measures.specs.Errors.{double, mean_error}
pub use Rattle.v_frame_measures.specs.Frames.{frame_measure, measured, HasWindows, HaveOneSize}
pub use Rattle.v_frame_measures.specs.Frames.{HaveWindows}
pub use Rattle.v_frame_measures.specs.PixelSums.{sums_of, sums_of_rectangle}
pub use Rattle.v_frame_measures.specs.Ssim.{constants_of, line_of, peak_of, similarity_of, ssim_of}
pub use Rattle.v_frame_measures.specs.Ssim.{total, window_at, windows_along}
