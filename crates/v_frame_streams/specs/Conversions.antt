-- The conversion of frames to another chroma format and bit depth.
use Rattle.std.specs.Prelude.{ℕ, ◌≡◌, ◌-◌, ◌^◌, ◌==◌, ◌&&◌, ⊤, if◌then◌else◌, Bool, Option, Some, None}
use Rattle.std.specs.Prelude.{option_map}
use Rattle.std.specs.Prelude.{replicate}
use Rattle.std.specs.Str.{bytes_eq}
use Rattle.std.specs.Int.NonZero.{non_zero_u8_get}
use Rattle.v_frame.specs.Prelude.{one_byte, two_bytes, Frame, PixelForm, Raster, Table, Tables}
use Rattle.v_frame.specs.Prelude.{ChromaSubsampling}
use denote.Enum.Bare.{sameb}
use Rattle.v_frame_raster.specs.contracts.chroma.ChromaSubsampling.{the_type}
use Rattle.v_frame_convert.specs.Prelude.{converted, pixel_at_depth, pixel_of_depth, scaled}
use Rattle.v_frame_convert.specs.Prelude.{scales_between, DepthFits, SizesFit}
use Rattle.v_frame_convert.specs.declared.scale.Scale.{Scale}
use Rattle.v_frame_y4m.specs.Color.{color_text, depth_of, subsampling_of}
use Rattle.v_frame_planar.specs.Video.{chroma_sizes_of}
use Rattle.v_frame_semi_planar.specs.Format.{sample_size_of, depth_of as layout_depth}
use Rattle.v_frame_semi_planar.specs.Format.{subsampling_of as layout_chroma}
use Rattle.v_frame_semi_planar.specs.declared.format.SemiPlanarFormat.{SemiPlanarFormat}
use Rattle.v_frame_y4m.specs.declared.color.Color.{Color}
use Rattle.v_frame_streams.specs.Pictures.{Sizes}
use Rattle.v_frame_streams.specs.declared.stream.Container.{Container}
use Rattle.v_frame_streams.specs.declared.stream.Container.TheVariants.{Y4m, Raw}
use Rattle.v_frame_formats.specs.Formats.{color_of_layout}
use Rattle.v_frame_formats.specs.declared.format.VideoFormat.{VideoFormat}
use Rattle.v_frame_formats.specs.declared.format.VideoFormat.TheVariants.{Planar, SemiPlanar}

-- A chroma subsampling and a bit depth.
abbrev pub Format : Type 0
Format = ChromaSubsampling × ℕ

-- The format of a color.
abbrev pub format_in : Color → Format
format_in color = (subsampling_of color, depth_of color)

-- The format of a frame.
abbrev pub format_of : {T : Type 0} → Frame T → Format
format_of frame = (frame.subsampling, non_zero_u8_get frame.bit_depth)

-- The encoding of pixels of a bit depth as bytes.
abbrev pub form_of : ℕ → PixelForm ℕ
form_of depth = if depth == 8 then one_byte else two_bytes

-- Frames of the format `from` can be used unchanged as frames of the format `to`.
abbrev pub is_same_format : Format → Format → Bool
is_same_format from to = sameb the_type from.0 to.0 && (from.1 == to.1)

-- A header line spells the two colors alike.
abbrev pub is_same_color : Color → Color → Bool
is_same_color one other = bytes_eq (color_text one) (color_text other)

module _ {S T : Type 0} (form : PixelForm S) (other : PixelForm T) (from to : Format) where
  -- A chroma plane, scaled to `size` and converted to the other bit depth. If the source has no
  -- chroma, all pixels are neutral.
  abbrev pub chroma_in_format : Option (Table S) → ℕ × ℕ → Table T
  chroma_in_format None size = replicate size.1 (replicate size.0 (other.pixel_of (2 ^ (to.1 - 1))))
  chroma_in_format (Some table) size =
      let scales = scales_between from.0 to.0 in
      scaled form (pixel_of_depth other from.1 to.1) scales.0 scales.1 size.0 size.1 table

  -- The tables of a frame in the other format. `sizes` are the sizes of the planes in that format.
  abbrev pub in_format : Sizes → Tables S → Tables T
  in_format sizes tables =
      record {
        y = converted (converted (pixel_at_depth form other from.1 to.1)) tables.y;
        u = option_map (chroma_in_format tables.u) sizes.1.0;
        v = option_map (chroma_in_format tables.v) sizes.1.1;
      }

module _ {T : Type 0} where
  -- The width and the height in the geometry of a plane, and of the planes of a frame.
  abbrev pub size_laid_out : Raster T → ℕ × ℕ
  size_laid_out plane = (plane.geometry.width, plane.geometry.height)

  abbrev pub sizes_laid_out : Frame T → Sizes
  sizes_laid_out frame = (
    size_laid_out frame.y_plane,
    (option_map size_laid_out frame.u_plane, option_map size_laid_out frame.v_plane),
  )

-- If both chroma planes are present, the sizes fit the scales between them.
abbrev pub ChromaSizesFit : Scale × Scale → Option (ℕ × ℕ) → Option (ℕ × ℕ) → Type 0
ChromaSizesFit scales (Some source) (Some target) =
    SizesFit scales.0 source.0 target.0 × SizesFit scales.1 source.1 target.1
ChromaSizesFit scales _ _ = ⊤

-- Frames with the sizes `source` and the format `from` can be converted to the sizes `target` and
-- the format `to`. Their pixels have `bytes` and `other` bytes.
pub record FormatsFit (bytes other : ℕ) (from to : Format) (source target : Sizes) : Type 0 where
  pub luma : source.0 ≡ target.0
  pub depth : DepthFits bytes from.1
  pub new_depth : DepthFits other to.1
  pub u : ChromaSizesFit (scales_between from.0 to.0) source.1.0 target.1.0
  pub v : ChromaSizesFit (scales_between from.0 to.0) source.1.1 target.1.1

-- Frames of a format and with these sizes, whose pixels have `size` bytes, can be written in a
-- semi-planar layout.
pub record LayoutFits (size : ℕ) (layout : SemiPlanarFormat) (format : Format) (sizes : Sizes)
    : Type 0 where
  pub bytes : size ≡ sample_size_of layout
  pub depth : format.1 ≡ layout_depth layout
  pub chroma : format.0 ≡ layout_chroma layout
  pub u : sizes.1.0 ≡ chroma_sizes_of (layout_chroma layout) sizes.0.0 sizes.0.1
  pub v : sizes.1.1 ≡ chroma_sizes_of (layout_chroma layout) sizes.0.0 sizes.0.1

-- The layout of the output, if a semi-planar format is requested.
abbrev pub layout_in : Option VideoFormat → Option SemiPlanarFormat
layout_in None = None
layout_in (Some (Planar color)) = None
layout_in (Some (SemiPlanar layout)) = Some layout

-- The layout of the output. Without a requested format, a YUV4MPEG2 stream gets planar frames, and
-- raw video keeps the layout of the source.
abbrev pub layout_to : Container → Option VideoFormat → Option SemiPlanarFormat
    → Option SemiPlanarFormat
layout_to Y4m None there = None
layout_to Raw None there = there
layout_to to (Some format) there = layout_in (Some format)

-- The color of the output. If chroma subsampling and bit depth do not change, the color of the
-- source is kept, with its chroma siting.
abbrev pub color_in : Option VideoFormat → Color → Color
color_in None there = there
color_in (Some (Planar color)) there =
    if is_same_format (format_in there) (format_in color) then there else color
color_in (Some (SemiPlanar layout)) there = color_of_layout layout
