-- The definitions that contracts of other crates use, re-exported from one module.
pub use Rattle.v_frame_ops.specs.Border.{nearest, IsPadded}
pub use Rattle.v_frame_ops.specs.Change.{mapped, combined, MapsPixels, CombinesPixels}
pub use Rattle.v_frame_ops.specs.Compare.{IsFirstDifference}
pub use Rattle.v_frame_ops.specs.Compose.{weighted_mean, amplified_difference, blended, difference_of}
pub use Rattle.v_frame_ops.specs.Compose.{LiesOn}
pub use Rattle.v_frame_ops.specs.Rows.{HoldsPixelsFrom}
