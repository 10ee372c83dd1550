-- The colors of a frame.
use Rattle.std.specs.Prelude.{ℕ, ◌||◌, ◌∷◌, [], Bool, List, Option, is_some, if◌then◌else◌}
use Rattle.std.specs.Int.NonZero.{non_zero_u8_get}
use Rattle.v_frame.specs.Prelude.{Frame, PixelForm, Raster, Table, table_of}
use Rattle.v_frame.specs.Prelude.{Yuv444}
use Rattle.v_frame_convert.specs.Prelude.{chroma_shown, converted, pixel_at_depth, scales_between}
use Rattle.v_frame_png.specs.declared.header.Samples.{Samples}
use Rattle.v_frame_png.specs.declared.header.Samples.TheVariants.{Rgb8}
use Rattle.v_frame_rgb.specs.Prelude.{Color, exact_color_rows}
use Rattle.yuv_pictures.specs.Gray.{gray_rows, gray_samples}
use Rattle.yuv_pictures.specs.declared.colors.Colors.{Colors}

-- The bytes of a color: red, green and blue.
abbrev pub rgb_bytes : Color → List ℕ
rgb_bytes color = color.red ∷ color.green ∷ color.blue ∷ []

module _ {T : Type 0} (frame : Frame T) where
  -- Whether the frame has at least one chroma plane.
  abbrev pub has_chroma : Bool
  has_chroma = is_some frame.u_plane || is_some frame.v_plane

  -- The kind of samples that a picture of the frame has.
  abbrev pub frame_samples : Samples
  frame_samples =
      if has_chroma then Rgb8 else gray_samples (non_zero_u8_get frame.bit_depth)

module _ {T : Type 0} (form : PixelForm T) (frame : Frame T) where
  abbrev depth : ℕ
  depth = non_zero_u8_get frame.bit_depth

  -- Luma, with samples above the greatest value of the bit depth replaced by this value.
  abbrev pub luma_shown : Table T
  luma_shown = converted (converted (pixel_at_depth form form depth depth)) (table_of frame.y_plane)

  -- A chroma plane with a sample for each luma sample. Samples above the greatest value of the bit
  -- depth are replaced by this value.
  abbrev pub full_chroma : Option (Raster T) → Table T
  full_chroma plane =
      chroma_shown form form depth depth (scales_between frame.subsampling Yuv444) plane
      frame.y_plane.geometry.width frame.y_plane.geometry.height

  -- The bytes of the rows of the colors. Each channel is rounded once.
  abbrev pub frame_colors : Colors → Table ℕ
  frame_colors colors =
      exact_color_rows colors.standard colors.range depth form rgb_bytes luma_shown
      (full_chroma frame.u_plane) (full_chroma frame.v_plane)

  -- The bytes of the rows of a picture of the frame: its colors, or gray if it has no chroma.
  abbrev pub frame_rows : Colors → Table ℕ
  frame_rows colors =
      if has_chroma frame then frame_colors colors
      else gray_rows form depth (table_of frame.y_plane)
