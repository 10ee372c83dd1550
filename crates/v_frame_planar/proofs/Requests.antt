-- The conditions for making a frame of any size. A padding that is too large for `usize` may be
-- replaced by the largest `usize`.
use Rattle.std.proofs.Common.{ℕ, zero, suc, ◌≡◌, ◌*◌, ◌<◌, ◌≤◌, min, true, ◌&&◌, Option, Some, None}
use Rattle.std.proofs.Common.{Result, Ok, Err, option_map, refl, ◌∙◌, ap, arith}
use Rattle.std.specs.Prelude.{MatchOption, IsOkUnless, IfOk, is_ok}
use Rattle.std.proofs.lemmas.List.{length-replicate}
use Rattle.std.proofs.Math.Nat.{mul-le-mul_left}
use Rattle.std.proofs.lemmas.Bool.{and_parts}
use Rattle.std.specs.Cmp.{both_ways}
use Rattle.std.proofs.lemmas.Bool.Decides.{nat_tests}
use Rattle.v_frame_raster.specs.Chroma.{ratio_of, subsampled, geometry_in}
use Rattle.v_frame_raster.specs.Geometry.{Geometry, geometry_of, stride_of, alloc_height_of, alloc_size_of, usize_max}
use Rattle.v_frame_raster.specs.Geometry.{isize_max}
use Rattle.v_frame_raster.specs.declared.chroma.ChromaSubsampling.{ChromaSubsampling}
use Rattle.v_frame_raster.specs.Raster.{filled, table_of}
use Rattle.v_frame.specs.Build.{FrameRequest, refusal_of, is_laid_out, luma_geometry, chroma_geometry, IsBlank}
use Rattle.v_frame.specs.Frame.{tables_of}
use Rattle.v_frame.specs.declared.frame.Frame.{Frame}
use Rattle.v_frame.specs.declared.frame.error.FrameError.{FrameError}
use Rattle.v_frame_planar.specs.Planar.{size_of, sizes_of}
use Rattle.v_frame_planar.specs.Video.{luma_request, video_request, chroma_sizes_of, covering_size, covering_geometry}
use Rattle.v_frame_planar.specs.Video.{covering_chroma, plain_table}
use Rattle.v_frame_planar.specs.Video.{plain_tables, video_refusal_of, HasBlankLuma, IsBlankVideo}
use Rattle.v_frame_planar.proofs.Covers.{ceil_positive, subsampled_covers}
use Rattle.v_frame_planar.proofs.Filled.{table_of_filled}

module _ (width height : ℕ) where
  abbrev padded : ℕ → ℕ → Geometry
  padded across down = geometry_of width height across across down down 1 1

  -- A plane that can be laid out has rows, and its padding fits into `usize`.
  counted : (across down : ℕ) → is_laid_out (padded across down) ≡ true → (0 < height) × (across < usize_max) ×
      (down < usize_max)
  counted across down e =
      let g = padded across down in
      let fits : (0 < width) × (0 < height) × (stride_of g ≤ usize_max) × (2 * alloc_size_of g ≤ isize_max) = grind
      (arith, nat_tests, e) in
      let column : alloc_height_of g * 1 ≤ alloc_size_of g = mul-le-mul_left (alloc_height_of g) (omega (arith, fits))
      in
      (fits.1, omega (arith, fits), omega (arith, fits, column))

  uncut : (n : ℕ) → min n usize_max < usize_max → min n usize_max ≡ n
  uncut n small = omega arith

  -- Replacing a padding that is too large does not change whether the plane can be laid out.
  cut_decides : (across down : ℕ) → is_laid_out (padded (min across usize_max) (min down usize_max)) ≡ is_laid_out
      (padded across down)
  cut_decides across down =
      both_ways _ _ (λ cut. let small = counted _ _ cut in rw (uncut across small.1, uncut down small.2) at cut)
      (λ whole. let small = counted _ _ whole in rw
      (uncut across (omega (arith, small)), uncut down (omega (arith, small))) whole)

-- After a result without an error, the next step may run out of memory.
pub value_goes_on : {X Y : Type 0} (r : Result X FrameError) (s : Result Y FrameError) (o : FrameError)
    (due : Option FrameError) (x : X) → r ≡ Ok x
    → IsOkUnless s o → MatchOption due (IsOkUnless r o) (λ fault. r ≡ Err fault) → MatchOption due (IsOkUnless s o)
    (λ fault. s ≡ Err fault)
value_goes_on r s o due x was is h = grind arith

-- If the frame builder accepts the whole request, luma and chroma can be laid out.
lays_out : (bytes : ℕ) (request : FrameRequest) → refusal_of bytes request ≡ None
    → (is_laid_out (luma_geometry request) ≡ true) ×
    (is_ok (subsampled request.subsampling (luma_geometry request)) ≡ true)
lays_out bytes request h =
    let both : is_laid_out (luma_geometry request) && is_ok (subsampled request.subsampling (luma_geometry request)) ≡
    true = grind arith in
    and_parts _ _ both

-- A frame that was made was not rejected.
accepted : {X : Type 0} (due : Option FrameError) (o : FrameError) (x : X) → MatchOption due (IsOkUnless (Ok x) o)
    (λ fault. Ok x ≡ Err fault) → due ≡ None
accepted due o x h = grind arith

module _ {T : Type 0} (value : T) where
  -- A table of one value that has rows has the requested size.
  plain_size : (size : ℕ × ℕ) → 0 < size.1 → size_of (plain_table value size) ≡ size
  plain_size (width, zero) some = absurd (omega (arith, some))
  plain_size (width, suc n) some = simp length-replicate

  chroma_size : (width height : ℕ) → 0 < height → (ratio : Option (ℕ × ℕ)) → let sizes = option_map
      (covering_size width height) ratio in
      option_map size_of (option_map (plain_table value) sizes) ≡ sizes
  chroma_size width height some None = refl
  chroma_size width height some (Some ratio) = rw (plain_size (covering_size width height ratio)
      (ceil_positive height ratio.1 some))

  chroma_table : (g : Geometry) (ratio : Option (ℕ × ℕ)) → option_map table_of
      (option_map (filled value) (option_map (covering_geometry g) ratio))
      ≡ option_map (plain_table value) (option_map (covering_size g.width g.height) ratio)
  chroma_table g None = refl
  chroma_table g (Some ratio) = rw (table_of_filled value (covering_geometry g ratio))

  -- A blank frame equals the one of the frame builder, if the builder accepts the request.
  is_as_built : (bytes : ℕ) (request : FrameRequest) (frame : Frame T) → IsBlankVideo value request frame → refusal_of
      bytes request ≡ None
      → IsBlank value request frame
  is_as_built bytes request frame blank h =
      let chroma = subsampled_covers request (ratio_of request.subsampling) (lays_out bytes request h).1 in
      let same : chroma_geometry request ≡ covering_chroma request = ap geometry_in chroma in
      record {
        y_plane = blank.y_plane;
        chroma = rw same chroma;
        u_plane = rw same blank.u_plane;
        v_plane = rw same blank.v_plane;
        subsampling = blank.subsampling;
        bit_depth = blank.bit_depth;
      }

  module _ (bytes width height depth padding : ℕ) (s : ChromaSubsampling) where
    abbrev asked : FrameRequest
    asked = video_request width height s depth padding

    -- The request for luma, with a padding that is replaced if it is too large.
    abbrev cut : FrameRequest
    cut = luma_request width height depth (min asked.pad_left usize_max) (min asked.pad_top usize_max)

    abbrev decides : is_laid_out (luma_geometry cut) ≡ is_laid_out (luma_geometry asked)
    decides = cut_decides width height asked.pad_left asked.pad_top

    -- It is rejected for the same reason, and otherwise luma is as requested.
    pub luma_as_asked : (built : Result (Frame T) FrameError) (o : FrameError)
        → MatchOption (refusal_of bytes cut) (IsOkUnless built o) (λ fault. built ≡ Err fault) → IfOk built
        (IsBlank value cut)
        → MatchOption (video_refusal_of bytes asked) (IsOkUnless built o) (λ fault. built ≡ Err fault) × IfOk built
        (HasBlankLuma value asked)
    luma_as_asked (Err error) o refused blank = (rw decides at refused, tt)
    luma_as_asked (Ok frame) o refused blank =
        let small = counted width height _ _ (lays_out bytes cut (accepted (refusal_of bytes cut) o frame refused)).0 in
        let across = uncut width height asked.pad_left small.1 in
        let down = uncut width height asked.pad_top small.2 in (
          rw decides at refused,
          record {
            y_plane = rw (across, down) at blank.y_plane;
            bit_depth = blank.bit_depth;
            some = small.0;
          },
        )

    -- The tables of a blank frame.
    tables_of_blank : (frame : Frame T) → IsBlankVideo value asked frame → tables_of frame ≡ plain_tables value width
        height s
    tables_of_blank frame blank =
        let luma = luma_geometry asked in
        rw (blank.y_plane, blank.u_plane, blank.v_plane, table_of_filled value luma, chroma_table luma (ratio_of s))

    -- All facts about a blank frame that are reported, if there is one.
    pub told_of_blank : (result : Result (Frame T) FrameError) → 0 < height → IfOk result (IsBlankVideo value asked)
        → IfOk result (λ frame. tables_of frame ≡ plain_tables value width height s)
        × IfOk result (λ frame. sizes_of (tables_of frame) ≡
        ((width, height), (chroma_sizes_of s width height, chroma_sizes_of s width height)))
        × (refusal_of bytes asked ≡ None → IfOk result (IsBlank value asked))
    told_of_blank (Ok frame) some blank =
        let tables = tables_of_blank frame blank in
        let sizes = ap sizes_of tables ∙ rw (
          plain_size (width, height) some,
          chroma_size width height some
              (ratio_of s),
        ) in
        (tables, sizes, is_as_built bytes asked frame blank)
    told_of_blank (Err error) some blank = (tt, tt, λ accepts. tt)
