-- Frames with chroma as large as luma, and their relation to the frames that they are made from.
use Rattle.std.specs.Prelude.{ℕ, ◌≡◌, MatchOption}
use Rattle.std.specs.Int.NonZero.{non_zero_u8_get}
use Rattle.v_frame.specs.Prelude.{Frame, PixelForm, Raster, Table, Yuv444, table_of}
use Rattle.yuv_pictures.specs.Colors.{full_chroma, luma_shown}

module _ {T : Type 0} where
  -- The plane has this size.
  pub record HasSize (width height : ℕ) (plane : Raster T) : Type 0 where
    pub wide : plane.geometry.width ≡ width
    pub high : plane.geometry.height ≡ height

  -- The plane has this size and shows the table.
  pub record IsPlaneOf (width height : ℕ) (table : Table T) (plane : Raster T) : Type 0 where
    pub wide : plane.geometry.width ≡ width
    pub high : plane.geometry.height ≡ height
    pub shown : table_of plane ≡ table

  -- The frame has three planes of the same size.
  pub record IsFullFrame (width height bits : ℕ) (frame : Frame T) : Type 0 where
    pub y : HasSize width height frame.y_plane
    pub u : MatchOption frame.u_plane ⊥ (HasSize width height)
    pub v : MatchOption frame.v_plane ⊥ (HasSize width height)
    pub subsampling : frame.subsampling ≡ Yuv444
    pub depth : non_zero_u8_get frame.bit_depth ≡ bits

  -- The frame `shown` has the contents of `frame`, with a chroma pixel for each luma pixel.
  pub record ShowsFullChroma (form : PixelForm T) (frame shown : Frame T) : Type 0 where
    pub y : IsPlaneOf frame.y_plane.geometry.width frame.y_plane.geometry.height
        (luma_shown form frame) shown.y_plane
    pub u : MatchOption shown.u_plane ⊥ (IsPlaneOf frame.y_plane.geometry.width
        frame.y_plane.geometry.height (full_chroma form frame frame.u_plane))
    pub v : MatchOption shown.v_plane ⊥ (IsPlaneOf frame.y_plane.geometry.width
        frame.y_plane.geometry.height (full_chroma form frame frame.v_plane))
