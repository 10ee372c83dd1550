-- The definitions that the contracts of callers cite, re-exported from one place.
pub use Rattle.v_frame_semi_planar.specs.Interleaved.{interleaved}
pub use Rattle.v_frame_semi_planar.specs.Format.{subsampling_of, depth_of, sample_size_of}
pub use Rattle.v_frame_semi_planar.specs.Format.{unused_bits, begins_with_v}
pub use Rattle.v_frame_semi_planar.specs.Format.{HasLayout, RefusedFor}
pub use Rattle.v_frame_semi_planar.specs.SemiPlanar.{chroma_table, semi_planar_pixels}
pub use Rattle.v_frame_semi_planar.specs.SemiPlanar.{semi_planar_bytes}
pub use Rattle.v_frame_semi_planar.specs.SemiPlanar.{stored_bytes, shown_pixels, FillsLayout, ReadsLayout}
pub use Rattle.v_frame_semi_planar.specs.SemiPlanar.{MayFailReading}
pub use Rattle.v_frame_semi_planar.specs.SemiPlanar.{MayFailWriting, TellsFailure}
