-- The pictures that `show` writes: one plane in gray, or the colors of a frame.
use Rattle.std.specs.Prelude.{ℕ, ◌≡◌, ◌+◌, ◌*◌, ◌≤◌, List, Option, Some, None, option_map, unwrap_or}
use Rattle.std.specs.Prelude.{IfSome, IsSomeAnd, MatchOption}
use Rattle.std.specs.Int.NonZero.{non_zero_u8_get}
use Rattle.v_frame.specs.Prelude.{ChromaSubsampling, Frame, PixelForm, Raster, Table, Tables, table_of, tables_of}
use Rattle.v_frame_png.specs.Prelude.{HasFile}
use Rattle.v_frame_png.specs.declared.header.Header.{Header}
use Rattle.v_frame_y4m.specs.Color.{subsampling_of}
use Rattle.v_frame_y4m.specs.declared.header.StreamHeader.{StreamHeader}
use Rattle.yuv_pictures.specs.Prelude.{frame_rows, frame_samples, gray_rows, gray_samples}
use Rattle.yuv_pictures.specs.Prelude.{picture_header, plane_named, StopsFrame, StopsGray}
use Rattle.yuv_pictures.specs.declared.colors.Colors.{Colors}
use Rattle.yuv_pictures.specs.declared.error.PictureError.{PictureError}
use Rattle.yuv_pictures.specs.declared.error.PictureError.TheVariants.{NoPlane}
use Rattle.yuv_system.specs.Headers.{matrix_of, used_range}
use Rattle.yuv_system.specs.Options.{most_pixels}
use Rattle.v_frame_streams.specs.Conversions.{format_in, format_of, sizes_laid_out}
use Rattle.v_frame_streams.specs.Prelude.{cropped, sizes_in, IsTakable, ReadsBehind, Sizes, Stream}
use Rattle.v_frame_formats.specs.declared.rectangle.Rectangle.{Rectangle}
use Rattle.v_frame_formats.specs.declared.component.Component.{Component}
use Rattle.yuv_words.specs.declared.command.Options.{Options as OptionWords}

-- The color standard and the range of pictures of a stream.
abbrev pub colors_asked : OptionWords → StreamHeader → Colors
colors_asked options header =
    record { standard = matrix_of options.matrix header; range = used_range options.range header }

-- The header of a picture, and the bytes of its rows.
abbrev pub Drawing : Type 0
Drawing = Header × Table ℕ

module _ {T : Type 0} (form : PixelForm T) (frame : Frame T) where
  -- The picture of a plane in gray.
  abbrev pub plane_drawing : Raster T → Drawing
  plane_drawing plane =
      let depth = non_zero_u8_get frame.bit_depth in (
        picture_header plane.geometry.width plane.geometry.height (gray_samples depth),
        gray_rows form depth (table_of plane),
      )

  -- The picture of the colors.
  abbrev pub color_drawing : Colors → Drawing
  color_drawing colors = (
    picture_header frame.y_plane.geometry.width frame.y_plane.geometry.height
        (frame_samples frame),
    frame_rows form frame colors,
  )

  -- The picture of the plane with this name, if the frame has it; or of the colors if no plane is
  -- named.
  abbrev pub drawing_of : Option Component → Colors → Option Drawing
  drawing_of None colors = Some (color_drawing colors)
  drawing_of (Some name) colors = option_map plane_drawing (plane_named frame name)

  -- The picture of a frame that the options request.
  abbrev pub drawing_asked : OptionWords → StreamHeader → Option Drawing
  drawing_asked options header = drawing_of options.plane (colors_asked options header)

-- The reason why the picture is not written. Samples have `bytes` bytes.
abbrev pub StopsDrawing : {T : Type 0} → ℕ → Frame T → Option Component → PictureError → Type 0
StopsDrawing bytes frame None error = StopsFrame bytes frame error
StopsDrawing bytes frame (Some name) error =
    MatchOption (plane_named frame name) (error ≡ NoPlane)
    (λ plane. StopsGray bytes (non_zero_u8_get frame.bit_depth) plane.geometry.width
    plane.geometry.height error)

-- The part of a picture that is shown: the part that the options request, or the whole picture.
abbrev pub part_shown : {T : Type 0} → ChromaSubsampling → Option Rectangle → Tables T → Tables T
part_shown subsampling None tables = tables
part_shown subsampling (Some part) tables = cropped subsampling part tables

-- The sizes of the planes of this part in pictures of a stream.
abbrev pub sizes_shown : Option Rectangle → StreamHeader → Sizes
sizes_shown None header = sizes_in header
sizes_shown (Some part) header =
    sizes_in (record header { width = part.width; height = part.height })

module _ (stream : Stream) (left left' : Option (List ℕ)) (options : OptionWords) where
  -- The frame with the requested number was read. Its picture has no more pixels than the options
  -- allow, and contains the requested part. `tables` are the samples of the frame.
  pub record TakesFrame {T : Type 0} (form : PixelForm T) (tables : Tables T) : Type 0 where
    pub before : ℕ
    pub number : before + 1 ≡ unwrap_or options.frame 1
    pub read : ReadsBehind form before stream left left' tables
    pub part : IfSome options.crop (λ part. IsTakable part stream.header)
    pub small : stream.header.width * stream.header.height ≤ most_pixels options.max_pixels

  -- The requested frame was read, and the requested picture of it or of a part of it was written.
  pub record ShowsFrame {T W : Type 0} (form : PixelForm T) (contents : W → Option (List ℕ))
      (start : Option (List ℕ)) (new : W) : Type 0 where
    pub tables : Tables T
    pub taken : TakesFrame form tables
    pub frame : Frame T
    pub shown : tables_of frame
        ≡ part_shown (subsampling_of stream.header.color) options.crop tables
    pub sizes : sizes_laid_out frame ≡ sizes_shown options.crop stream.header
    pub format : format_of frame ≡ format_in stream.header.color
    pub file : IsSomeAnd (drawing_asked form frame options stream.header)
        (λ drawing. HasFile contents start new drawing.0 drawing.1)
