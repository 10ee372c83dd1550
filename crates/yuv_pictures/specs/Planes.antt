-- The planes of a frame by name, and the size of a picture.
use Rattle.std.specs.Prelude.{ℕ, ◌<◌, ◌^◌, Option}
use Rattle.v_frame.specs.Prelude.{Frame, Raster, plane_at}
use Rattle.v_frame_formats.specs.Prelude.{index_of}
use Rattle.v_frame_formats.specs.declared.component.Component.{Component}
use Rattle.v_frame_png.specs.declared.header.ColorSpace.TheVariants.{Unnamed}
use Rattle.v_frame_png.specs.declared.header.Header.{Header}
use Rattle.v_frame_png.specs.declared.header.Samples.{Samples}

-- The plane with this name, if the frame has it.
abbrev pub plane_named : {T : Type 0} → Frame T → Component → Option (Raster T)
plane_named frame name = plane_at frame (index_of name)

-- A PNG file can have this width and height.
pub record IsPictureSize (width height : ℕ) : Type 0 where
  pub wide : width < 2 ^ 31
  pub high : height < 2 ^ 31

-- The header of a file. It states no color space.
abbrev pub picture_header : ℕ → ℕ → Samples → Header
picture_header width height samples =
    record { width = width; height = height; samples = samples; color_space = Unnamed }
