-- Frames of any size. The sizes of chroma are rounded up so that it covers luma, and the padding is
-- rounded up to a multiple of the subsampling ratio.
use Rattle.std.specs.Prelude.{ℕ, ◌≡◌, ◌*◌, ◌/◌, ◌<◌, Option, unwrap_or, option_map, replicate}
use Rattle.std.specs.Int.{div_ceil}
use Rattle.std.specs.Int.NonZero.{non_zero_u8_get}
use Rattle.v_frame.specs.Prelude.{ratio_of, ChromaSubsampling, Monochrome, Geometry, geometry_of, filled, Table, Tables}
use Rattle.v_frame.specs.Prelude.{FrameRequest, refusal_of, Frame, FrameError}
use Rattle.v_frame.specs.Build.{luma_geometry}

-- The subsampling ratios of a format. They are 1 without chroma.
abbrev pub ratio_or_one : ChromaSubsampling → ℕ × ℕ
ratio_or_one subsampling = unwrap_or (ratio_of subsampling) (1, 1)

-- The smallest multiple of `ratio` that is at least `n`.
abbrev pub multiple_from : ℕ → ℕ → ℕ
multiple_from n ratio = div_ceil n ratio * ratio

-- The request to a frame builder: luma has the padding on all four sides, rounded up to a multiple
-- of the ratio.
abbrev pub video_request : ℕ → ℕ → ChromaSubsampling → ℕ → ℕ → FrameRequest
video_request width height subsampling bit_depth padding =
    let ratio = ratio_or_one subsampling in
    record {
      width = width;
      height = height;
      subsampling = subsampling;
      bit_depth = bit_depth;
      pad_left = multiple_from padding ratio.0;
      pad_right = multiple_from padding ratio.0;
      pad_top = multiple_from padding ratio.1;
      pad_bottom = multiple_from padding ratio.1;
    }

-- The request for a luma plane only, with the padding on the left and the right, and at the top and
-- the bottom.
abbrev pub luma_request : ℕ → ℕ → ℕ → ℕ → ℕ → FrameRequest
luma_request width height bit_depth across down =
    record {
      width = width;
      height = height;
      subsampling = Monochrome;
      bit_depth = bit_depth;
      pad_left = across;
      pad_right = across;
      pad_top = down;
      pad_bottom = down;
    }

-- The reason for which a builder rejects the luma plane. Nothing else decides whether the frame can
-- be made.
abbrev pub video_refusal_of : ℕ → FrameRequest → Option FrameError
video_refusal_of bytes request = refusal_of bytes (record request { subsampling = Monochrome })

-- The sizes of the chroma planes for a luma size, rounded up so that chroma covers luma.
abbrev pub covering_size : ℕ → ℕ → ℕ × ℕ → ℕ × ℕ
covering_size width height ratio = (div_ceil width ratio.0, div_ceil height ratio.1)

abbrev pub chroma_sizes_of : ChromaSubsampling → ℕ → ℕ → Option (ℕ × ℕ)
chroma_sizes_of subsampling width height =
    option_map (covering_size width height) (ratio_of subsampling)

-- The geometry of the chroma planes for a luma plane.
abbrev pub covering_geometry : Geometry → ℕ × ℕ → Geometry
covering_geometry g ratio =
    geometry_of (div_ceil g.width ratio.0) (div_ceil g.height ratio.1)
    (g.pad_left / ratio.0) (g.pad_right / ratio.0) (g.pad_top / ratio.1) (g.pad_bottom / ratio.1)
    ratio.0 ratio.1

abbrev pub covering_chroma : FrameRequest → Option Geometry
covering_chroma request =
    option_map (covering_geometry (luma_geometry request)) (ratio_of request.subsampling)

module _ {T : Type 0} where
  -- The frame is as requested, and each of its planes is `zero` everywhere, border included.
  pub record IsBlankVideo (zero : T) (request : FrameRequest) (frame : Frame T) : Type 0 where
    pub y_plane : frame.y_plane ≡ filled zero (luma_geometry request)
    pub u_plane : frame.u_plane ≡ option_map (filled zero) (covering_chroma request)
    pub v_plane : frame.v_plane ≡ option_map (filled zero) (covering_chroma request)
    pub subsampling : frame.subsampling ≡ request.subsampling
    pub bit_depth : non_zero_u8_get frame.bit_depth ≡ request.bit_depth

  -- The luma plane and the bit depth of a blank frame.
  pub record HasBlankLuma (zero : T) (request : FrameRequest) (frame : Frame T) : Type 0 where
    pub y_plane : frame.y_plane ≡ filled zero (luma_geometry request)
    pub bit_depth : non_zero_u8_get frame.bit_depth ≡ request.bit_depth
    pub some : 0 < request.height

  -- A table of this size with one value everywhere.
  abbrev pub plain_table : T → ℕ × ℕ → Table T
  plain_table value size = replicate size.1 (replicate size.0 value)

  -- The tables of a blank frame.
  abbrev pub plain_tables : T → ℕ → ℕ → ChromaSubsampling → Tables T
  plain_tables value width height subsampling =
      let chroma = option_map (plain_table value) (chroma_sizes_of subsampling width height) in
      record { y = plain_table value (width, height); u = chroma; v = chroma }
