-- Bytes that go through a frame: the frame is built, filled by a copy with a stride, and its bytes are read.
use Rattle.std.proofs.Common.{ℕ, ◌≡◌, ◌*◌, ◌^◌, ◌<◌, ◌≤◌, Bool, true, false, ◌&&◌, ◌||◌, ltb, if◌then◌else◌, List, []}
use Rattle.std.proofs.Common.{◌∷◌, length, Option, Some, None, Result, Ok, Err, refl, eq-eqb}
use Rattle.std.specs.Prelude.{MatchOption, IsOkUnless, is_ok}
use Rattle.std.proofs.lemmas.Bool.{le-ltb, ltb-true}
use Rattle.std.proofs.lemmas.List.{length-replicate}
use Rattle.v_frame_raster.specs.Geometry.{alloc_size_of}
use Rattle.v_frame_raster.specs.Raster.{Raster, filled, table_of}
use Rattle.v_frame_raster.specs.Table.{width_of, height_of, row_major}
use Rattle.v_frame_raster.specs.StridedRows.{piece_fronts, strided_table}
use Rattle.v_frame_raster.specs.Pixel.{PixelForm}
use Rattle.v_frame.specs.Frame.{Tables}
use Rattle.v_frame.specs.Walk.{draws_answer}
use Rattle.v_frame.specs.Replay.{answers_to}
use Rattle.v_frame.specs.Build.{FrameRequest, luma_geometry, is_laid_out, is_mismatch, refusal_of}
use Rattle.v_frame_raster.specs.Chroma.{subsampled}
use Rattle.v_frame.specs.declared.frame.error.FrameError.TheVariants.{UnsupportedBitDepth, DataTypeMismatch}
use Rattle.v_frame.specs.declared.frame.error.FrameError.TheVariants.{UnsupportedResolution}
use Rattle.v_frame.specs.declared.frame.error.FrameError.{FrameError}
use Rattle.v_frame.specs.declared.replay.draw.Side.{Side}
use Rattle.v_frame.specs.declared.replay.call.VisibleCall.TheVariants.{CopyFromU8SliceWithStride, ByteData}
use Rattle.v_frame.specs.declared.replay.answer.Answer.{TheVariants.Copied, TheVariants.BytesWalked}
use Rattle.v_frame_raster.proofs.tables.BytesBack.{AreBytes, table_comes_back}
use Rattle.v_frame_plane.specs.Copy.{strided_copy}
use Rattle.v_frame_raster.proofs.ChromaLemmas.{both_true}
use Rattle.v_frame_raster.proofs.tables.Sizes.{width_of_shown, height_of_shown}

module _ {X : Type 0} (r : Result X FrameError) (built : X) (is : r ≡ Ok built) where
  -- A request that is not rejected has passed each check.
  passed : (a b c : Bool) (e f g o : FrameError) →
      MatchOption (if a then Some e else (if b then Some f else (if c then None else Some g))) (IsOkUnless r o)
      (λ fault. r ≡ Err fault) → c ≡ true
  passed a b true e f g o h = refl
  passed true b false e f g o h = cc
  passed false true false e f g o h = cc
  passed false false false e f g o h = cc

  -- A frame that was built therefore has a height.
  pub built_high : (bytes : ℕ) (asked : FrameRequest) (o : FrameError) → MatchOption (refusal_of bytes asked)
      (IsOkUnless r o) (λ fault. r ≡ Err fault) →
      0 < asked.height
  built_high bytes asked o h =
      let depth = asked.bit_depth in
      let luma = luma_geometry asked in
      let all = passed (ltb depth 8 || ltb 16 depth) (is_mismatch bytes depth)
      (is_laid_out luma && is_ok (subsampled asked.subsampling luma))
      (UnsupportedBitDepth depth) DataTypeMismatch UnsupportedResolution o h in
      ltb-true 0 asked.height (both_true _ _ (both_true (ltb 0 asked.width) _
      (both_true (is_laid_out luma) _ all).0).1).0

-- An error that is passed on has the same reason.
pub refusal_goes_on : {X Y : Type 0} (r : Result X FrameError) (s : Result Y FrameError) (e o : FrameError)
    (due : Option FrameError) → r ≡ Err e → s ≡ Err e
    → MatchOption due (IsOkUnless r o) (λ fault. r ≡ Err fault) → MatchOption due (IsOkUnless s o)
    (λ fault. s ≡ Err fault)
refusal_goes_on r s e o None was is h = let why = rw was at h in rw is why
refusal_goes_on r s e o (Some fault) was is h = cc

module _ {T : Type 0} where
  pub blank_size : (zero : T) (asked : FrameRequest) (plane : Raster T) → plane ≡ filled zero (luma_geometry asked) → 0
      < asked.height →
      (width_of (table_of plane) ≡ asked.width) × (height_of (table_of plane) ≡ asked.height)
  blank_size zero asked plane is high = let blank = filled zero (luma_geometry asked) in
      rw is (
        width_of_shown blank high (length-replicate (alloc_size_of (luma_geometry asked)) zero),
        height_of_shown
            blank,
      )

  -- The results of the copy and of the iteration.
  module _ (form : PixelForm T) (back : (v : ℕ) → v < 256 ^ form.size → form.value (form.pixel_of v) ≡ v)
      (source : List ℕ) (bytes : AreBytes source) (stride :
      ℕ) (sides : List Side) where
    pub path_answers : (tables : Tables T) (width height : ℕ) → width_of tables.y ≡ width → height_of tables.y ≡ height
        → width * form.size ≤ stride →
        length source ≡ stride * height
        → answers_to form (CopyFromU8SliceWithStride 0 source stride ∷ ByteData 0 sides ∷ []) tables
        ≡ Copied (Ok tt) ∷ BytesWalked (length (row_major (piece_fronts (width * form.size) stride height source)))
        (draws_answer (row_major (piece_fronts (width * form.size) stride height source)) sides) ∷ []
    path_answers tables width height w h fits whole =
        let copied : strided_copy form tables.y source stride ≡ record
        { answer = Ok tt; table = strided_table form width height stride source } =
        rw (w, h, le-ltb stride (width * form.size) fits, eq-eqb (length source) (stride * height) whole) refl in
        rw (copied, table_comes_back form back width height stride source fits whole bytes)
