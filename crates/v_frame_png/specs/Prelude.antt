-- The definitions that the contracts of callers cite, re-exported from one place.
pub use Rattle.v_frame_png.specs.CoderFits.{compression_of}
pub use Rattle.v_frame_bytes.specs.Crc.{crc32, crc_rest, crc_step, ones}
pub use Rattle.v_frame_png.specs.Decoding.{Form, Picture, decoded}
pub use Rattle.v_frame_png.specs.Header.{IsSize, bit_depth_of, color_type_of, pixel_size, row_size}
pub use Rattle.v_frame_png.specs.Refusals.{AcceptsRows, IfFault, RefusesHeader, RefusesRows, StopsEnd, StopsRows}
pub use Rattle.v_frame_png.specs.Samples.{big_endian}
pub use Rattle.v_frame_png.specs.Writing.{HasBeginning, HasDrawn, HasFile, IsBeginning, IsFile, picture_of}
