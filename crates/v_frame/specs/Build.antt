-- The request to a frame builder, the frames that can be built, and the contents of a new frame.
use Rattle.std.specs.Prelude.{ℕ, ◌*◌, ◌≡◌, ◌==◌, ◌&&◌, ◌||◌, not, nat_lt, nat_le, if◌then◌else◌, Bool, All, Option}
use Rattle.std.specs.Prelude.{Some, None, IfSome, Ok, is_ok, option_map}
use Rattle.std.specs.Int.NonZero.{non_zero_u8_get}
use Rattle.v_frame_raster.specs.Geometry.{Geometry, geometry_of, stride_of, alloc_size_of, usize_max, isize_max}
use Rattle.v_frame_raster.specs.Chroma.{chroma_size_of, subsampled, geometry_in}
use Rattle.v_frame_raster.specs.declared.chroma.ChromaSubsampling.{ChromaSubsampling}
use Rattle.v_frame_raster.specs.Raster.{Raster, filled}
use Rattle.v_frame.specs.declared.frame.Frame.{Frame}
use Rattle.v_frame.specs.declared.frame.error.FrameError.{FrameError}
use Rattle.v_frame.specs.declared.frame.error.FrameError.TheVariants.{UnsupportedBitDepth, DataTypeMismatch}
use Rattle.v_frame.specs.declared.frame.error.FrameError.TheVariants.{UnsupportedResolution}

-- The values of a frame builder: the luma size, the format, the bit depth and the luma paddings.
pub record FrameRequest : Type 0 where
  pub width : ℕ
  pub height : ℕ
  pub subsampling : ChromaSubsampling
  pub bit_depth : ℕ
  pub pad_left : ℕ
  pub pad_right : ℕ
  pub pad_top : ℕ
  pub pad_bottom : ℕ

-- The geometry of the luma plane.
abbrev pub luma_geometry : FrameRequest → Geometry
luma_geometry request =
    geometry_of request.width request.height request.pad_left request.pad_right
    request.pad_top request.pad_bottom 1 1

-- The visible rectangle is not empty, the stride fits into a `usize`, and the buffer fits.
abbrev pub is_laid_out : Geometry → Bool
is_laid_out g =
    nat_lt 0 g.width
    && (nat_lt 0 g.height
    && (nat_le (stride_of g) usize_max && nat_le (2 * alloc_size_of g) isize_max))

-- Pixels of one byte have the bit depth 8, and pixels of two bytes have another bit depth.
abbrev pub is_mismatch : ℕ → ℕ → Bool
is_mismatch bytes depth = (bytes == 1 && not (depth == 8)) || (bytes == 2 && depth == 8)

-- The geometry of the requested chroma planes, if there are any.
abbrev pub chroma_geometry : FrameRequest → Option Geometry
chroma_geometry request = geometry_in (subsampled request.subsampling (luma_geometry request))

-- The reason why a frame with pixels of this size in bytes cannot be built. The first reason that
-- applies is reported.
abbrev pub refusal_of : ℕ → FrameRequest → Option FrameError
refusal_of bytes request =
    if nat_lt request.bit_depth 8 || nat_lt 16 request.bit_depth
    then Some (UnsupportedBitDepth request.bit_depth)
    else (if is_mismatch bytes request.bit_depth then Some DataTypeMismatch
    else (if is_laid_out (luma_geometry request)
    && is_ok (subsampled request.subsampling (luma_geometry request)) then None
    else Some UnsupportedResolution))

module _ {T : Type 0} where
  -- The frame is as requested, and each entry of its planes is `zero`.
  pub record IsBlank (zero : T) (request : FrameRequest) (frame : Frame T) : Type 0 where
    pub y_plane : frame.y_plane ≡ filled zero (luma_geometry request)
    pub chroma : subsampled request.subsampling (luma_geometry request)
        ≡ Ok (chroma_geometry request)
    pub u_plane : frame.u_plane ≡ option_map (filled zero) (chroma_geometry request)
    pub v_plane : frame.v_plane ≡ option_map (filled zero) (chroma_geometry request)
    pub subsampling : frame.subsampling ≡ request.subsampling
    pub bit_depth : non_zero_u8_get frame.bit_depth ≡ request.bit_depth

module _ {T : Type 0} where
  -- The visible width and height of a plane.
  abbrev pub visible_size_of : Raster T → ℕ × ℕ
  visible_size_of plane = (plane.geometry.width, plane.geometry.height)

  -- A new frame is zero everywhere. Its chroma planes have the size for the format, or are absent.
  pub record IsZeroEverywhere (zero : T) (request : FrameRequest) (frame : Frame T) : Type 0 where
    pub y : All (λ pixel. pixel ≡ zero) frame.y_plane.buffer
    pub u : IfSome frame.u_plane (λ plane. All (λ pixel. pixel ≡ zero) plane.buffer)
    pub v : IfSome frame.v_plane (λ plane. All (λ pixel. pixel ≡ zero) plane.buffer)
    pub size_of_u : option_map visible_size_of frame.u_plane
        ≡ chroma_size_of request.subsampling request.width request.height
    pub size_of_v : option_map visible_size_of frame.v_plane
        ≡ chroma_size_of request.subsampling request.width request.height
