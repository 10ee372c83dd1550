-- The definitions that contracts of other crates use, re-exported from one module.
pub use Rattle.v_frame_convert.specs.Chroma.{repeated, upscaled, IsSubsampledSize}
pub use Rattle.v_frame_convert.specs.Convert.{converted, GivesPixels}
pub use Rattle.v_frame_convert.specs.Depth.{at_depth, largest_value, pixel_at_depth, pixel_of_depth}
pub use Rattle.v_frame_convert.specs.Depth.{DepthFits}
pub use Rattle.v_frame_convert.specs.Frame.{converted_tables, chroma_of, chroma_shown}
pub use Rattle.v_frame_convert.specs.Frame.{scales_between}
pub use Rattle.v_frame_convert.specs.Frame.{AreChromaSizes, ChromaFits, FramesFit, FramesMatch}
pub use Rattle.v_frame_convert.specs.Frame.{HaveChromaSizes, IsChromaSize}
pub use Rattle.v_frame_convert.specs.Range.{in_full_range, in_limited_range, luma_in_full_range}
pub use Rattle.v_frame_convert.specs.Range.{pixel_by}
pub use Rattle.v_frame_convert.specs.Range.{chroma_in_full_range, luma_in_limited_range}
pub use Rattle.v_frame_convert.specs.Range.{chroma_in_limited_range}
pub use Rattle.v_frame_convert.specs.Scale.{scaled, places, mean_of, block_mean, nearest_value}
pub use Rattle.v_frame_convert.specs.Scale.{table_by}
pub use Rattle.v_frame_convert.specs.Scale.{SizesFit}
pub use Rattle.v_frame_convert.specs.declared.scale.Scale.TheVariants.{Quarter, Half, Same, Double}
pub use Rattle.v_frame_convert.specs.declared.scale.Scale.TheVariants.{Quadruple}
pub use Rattle.v_frame_convert.specs.declared.range.Component.TheVariants.{Luma, Chroma}
