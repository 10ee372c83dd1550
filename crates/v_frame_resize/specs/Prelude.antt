-- The definitions that contracts of other crates use, re-exported from one module.
pub use Rattle.v_frame_resize.specs.Resize.{overlap, weighted_from, weighted, row_sum, area_sum}
pub use Rattle.v_frame_resize.specs.Resize.{area_mean}
pub use Rattle.v_frame_resize.specs.Resize.{nearest, CanResize}
