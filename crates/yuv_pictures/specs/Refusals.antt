-- The errors for which a picture is not written.
use Rattle.std.specs.Prelude.{ℕ, ◌≡◌, ⊤, Bool, true, false, IfSome}
use Rattle.std.specs.Int.NonZero.{non_zero_u8_get}
use Rattle.v_frame.specs.Prelude.{ChromaSubsampling, Frame, Raster, Yuv444}
use Rattle.v_frame_convert.specs.Prelude.{DepthFits, SizesFit, scales_between}
use Rattle.v_frame_png.specs.Refusals.{IsFault}
use Rattle.v_frame_png.specs.declared.error.PngError.{PngError}
use Rattle.v_frame_png.specs.declared.error.PngError.TheVariants.{OutOfMemory as NoMemory}
use Rattle.yuv_pictures.specs.Colors.{has_chroma}
use Rattle.yuv_pictures.specs.Planes.{IsPictureSize}
use Rattle.yuv_pictures.specs.declared.error.PictureError.{PictureError}
use Rattle.yuv_pictures.specs.declared.error.PictureError.TheVariants.{TooLarge, NoPlane, Layout, Unlike}
use Rattle.yuv_pictures.specs.declared.error.PictureError.TheVariants.{Png, OutOfMemory}

-- The writer failed or wrote no bytes, or there was not enough memory.
abbrev pub IsTrouble : PictureError → Type 0
IsTrouble (Png cause) = IsFault cause
IsTrouble OutOfMemory = ⊤
IsTrouble (TooLarge width height) = ⊥
IsTrouble NoPlane = ⊥
IsTrouble Layout = ⊥
IsTrouble Unlike = ⊥

-- The error of a picture for an error of the PNG writer.
abbrev pub trouble_of : PngError → PictureError
trouble_of NoMemory = OutOfMemory
trouble_of cause = Png cause

-- The reason why no header has this size.
abbrev pub RefusesSize : ℕ → ℕ → PictureError → Type 0
RefusesSize width height (TooLarge columns rows) =
    ¬ IsPictureSize width height × (columns ≡ width) × (rows ≡ height)
RefusesSize width height (Png cause) = ⊥
RefusesSize width height OutOfMemory = ⊥
RefusesSize width height NoPlane = ⊥
RefusesSize width height Layout = ⊥
RefusesSize width height Unlike = ⊥

-- One of two propositions, selected by a test.
abbrev pub OneOf : Bool → Type 0 → Type 0 → Type 0
OneOf true P Q = P
OneOf false P Q = Q

-- ---- gray

-- Samples of `bytes` bytes with this depth can be written in gray, in a picture of this size.
pub record AcceptsGray (bytes depth width height : ℕ) : Type 0 where
  pub size : IsPictureSize width height
  pub depth_fits : DepthFits bytes depth

-- The reason why a gray picture is not written.
abbrev pub StopsGray : ℕ → ℕ → ℕ → ℕ → PictureError → Type 0
StopsGray bytes depth width height (TooLarge columns rows) =
    RefusesSize width height (TooLarge columns rows)
StopsGray bytes depth width height Layout =
    IsPictureSize width height × ¬ DepthFits bytes depth
StopsGray bytes depth width height (Png cause) =
    AcceptsGray bytes depth width height × IsFault cause
StopsGray bytes depth width height OutOfMemory = AcceptsGray bytes depth width height
StopsGray bytes depth width height NoPlane = ⊥
StopsGray bytes depth width height Unlike = ⊥

module _ {T : Type 0} where
  -- ---- colors

  -- A chroma plane has the size that the format requires for luma of this size, rounded up.
  pub record IsChromaSize (format : ChromaSubsampling) (width height : ℕ) (plane : Raster T)
      : Type 0 where
    pub across : SizesFit (scales_between format Yuv444).0 plane.geometry.width width
    pub down : SizesFit (scales_between format Yuv444).1 plane.geometry.height height

  -- The planes of a frame fit its format and its bit depth.
  pub record IsSound (bytes : ℕ) (frame : Frame T) : Type 0 where
    pub depth_fits : DepthFits bytes (non_zero_u8_get frame.bit_depth)
    pub u : IfSome frame.u_plane (IsChromaSize frame.subsampling frame.y_plane.geometry.width
        frame.y_plane.geometry.height)
    pub v : IfSome frame.v_plane (IsChromaSize frame.subsampling frame.y_plane.geometry.width
        frame.y_plane.geometry.height)

  pub record AcceptsColors (bytes : ℕ) (frame : Frame T) : Type 0 where
    pub size : IsPictureSize frame.y_plane.geometry.width frame.y_plane.geometry.height
    pub sound : IsSound bytes frame

  -- The reason why a color picture is not written.
  abbrev pub StopsColors : ℕ → Frame T → PictureError → Type 0
  StopsColors bytes frame (TooLarge columns rows) =
      RefusesSize frame.y_plane.geometry.width frame.y_plane.geometry.height
      (TooLarge columns rows)
  StopsColors bytes frame OutOfMemory =
      IsPictureSize frame.y_plane.geometry.width frame.y_plane.geometry.height
  StopsColors bytes frame Layout =
      IsPictureSize frame.y_plane.geometry.width frame.y_plane.geometry.height
      × ¬ IsSound bytes frame
  StopsColors bytes frame (Png cause) = AcceptsColors bytes frame × IsFault cause
  StopsColors bytes frame NoPlane = ⊥
  StopsColors bytes frame Unlike = ⊥

  -- The reason why a frame is not given a chroma pixel for each luma pixel.
  abbrev pub StopsFullChroma : ℕ → Frame T → PictureError → Type 0
  StopsFullChroma bytes frame Layout = ¬ IsSound bytes frame
  StopsFullChroma bytes frame OutOfMemory = ⊤
  StopsFullChroma bytes frame (TooLarge columns rows) = ⊥
  StopsFullChroma bytes frame (Png cause) = ⊥
  StopsFullChroma bytes frame NoPlane = ⊥
  StopsFullChroma bytes frame Unlike = ⊥

  -- ---- frames: colors, or gray if there is no chroma

  abbrev pub AcceptsFrame : ℕ → Frame T → Type 0
  AcceptsFrame bytes frame =
      OneOf (has_chroma frame) (AcceptsColors bytes frame)
      (AcceptsGray bytes (non_zero_u8_get frame.bit_depth) frame.y_plane.geometry.width
      frame.y_plane.geometry.height)

  abbrev pub StopsFrame : ℕ → Frame T → PictureError → Type 0
  StopsFrame bytes frame error =
      OneOf (has_chroma frame) (StopsColors bytes frame error)
      (StopsGray bytes (non_zero_u8_get frame.bit_depth) frame.y_plane.geometry.width
      frame.y_plane.geometry.height error)

  -- ---- differences

  -- The luma planes have the same size, and the frames the same bit depth.
  pub record AreAlike (first second : Frame T) : Type 0 where
    pub wide : second.y_plane.geometry.width ≡ first.y_plane.geometry.width
    pub high : second.y_plane.geometry.height ≡ first.y_plane.geometry.height
    pub depth : non_zero_u8_get second.bit_depth ≡ non_zero_u8_get first.bit_depth

  pub record AcceptsDifference (bytes : ℕ) (first second : Frame T) : Type 0 where
    pub alike : AreAlike first second
    pub gray : AcceptsGray bytes (non_zero_u8_get first.bit_depth) first.y_plane.geometry.width
        first.y_plane.geometry.height

  -- The reason why differences are not written.
  abbrev pub StopsDifference : ℕ → Frame T → Frame T → PictureError → Type 0
  StopsDifference bytes first second Unlike = ¬ AreAlike first second
  StopsDifference bytes first second (TooLarge columns rows) =
      AreAlike first second
      × RefusesSize first.y_plane.geometry.width first.y_plane.geometry.height
      (TooLarge columns rows)
  StopsDifference bytes first second Layout =
      AreAlike first second × ¬ DepthFits bytes (non_zero_u8_get first.bit_depth)
  StopsDifference bytes first second (Png cause) =
      AcceptsDifference bytes first second × IsFault cause
  StopsDifference bytes first second OutOfMemory = AreAlike first second
  StopsDifference bytes first second NoPlane = ⊥
