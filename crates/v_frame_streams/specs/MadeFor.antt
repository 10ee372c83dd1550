-- The picture that the frames of a stream are read into.
use Rattle.std.specs.Prelude.{◌≡◌, length}
use Rattle.v_frame.specs.Prelude.{tables_of, PixelForm}
use Rattle.v_frame_planar.specs.Planar.{byte_count, sizes_of}
use Rattle.v_frame_y4m.specs.Color.{depth_of}
use Rattle.v_frame_y4m.specs.Frames.{pixel_bytes}
use Rattle.v_frame_streams.specs.Conversions.{format_in, format_of}
use Rattle.v_frame_streams.specs.Pictures.{sizes_in}
use Rattle.v_frame_streams.specs.declared.picture.Picture.{Picture}
use Rattle.v_frame_streams.specs.declared.source.Source.{Source}

-- The picture fits the frames of a stream: its buffer has the length of a frame, its planes have
-- that number of bytes, and its frame has the sizes and the format in the header and the right
-- pixel type.
pub record IsMadeFor {R T : Type 0} (form : PixelForm T) (source : Source R) (picture : Picture T)
    : Type 0 where
  pub room : length picture.bytes.items ≡ source.frame_len
  pub count : byte_count form.size (sizes_of (tables_of picture.frame)) ≡ source.frame_len
  pub sizes : sizes_of (tables_of picture.frame) ≡ sizes_in source.header
  pub format : format_of picture.frame ≡ format_in source.header.color
  pub pixels : form.size ≡ pixel_bytes (depth_of source.header.color)
