-- Laws of copies of bytes: the bytes come back, and for pixels of one byte both packed copies are equal.
use Rattle.std.proofs.Common.{ℕ, zero, suc, ◌≡◌, ◌*◌, ◌^◌, ◌<◌, ◌≤◌, min, List, length, take, drop, map, Result, Ok}
use Rattle.std.proofs.Common.{Err, OnOk, inl, inr, refl, sym, ◌∙◌, ap, arith, eq-eqb, length-drop, length-take-le}
use Rattle.std.proofs.lemmas.Bool.{cases_lt, lt-ltb, le-ltb}
use Rattle.std.proofs.lemmas.Bool.Decides.{eqb_tells}
use Rattle.v_frame_raster.specs.Geometry.{usize_max}
use Rattle.v_frame_raster.specs.Table.{Table, width_of, height_of, row_major, cut_rows}
use Rattle.v_frame_plane.specs.Copy.{packed_copy, strided_copy, packed_byte_copy}
use Rattle.v_frame_raster.specs.StridedRows.{piece_fronts, strided_table}
use Rattle.v_frame_raster.specs.Pixel.{PixelForm, one_byte, byte_list, pixels_of_bytes}
use Rattle.v_frame_plane.specs.declared.error.CopyError.{CopyError}
use Rattle.v_frame_raster.proofs.Decoding.{one_byte_pixels}
use Rattle.v_frame_raster.proofs.tables.Sources.{fronts_of_packed}
use Rattle.v_frame_raster.proofs.tables.BytesBack.{AreBytes, table_comes_back}
use Rattle.v_frame_raster.proofs.tables.CutRows.{row_major-cut_rows}

module _ {T : Type 0} where
  -- A copy that passes both checks succeeds.
  pub accepted_copy : (form : PixelForm T) (table : Table T) (source : List ℕ) (stride width height : ℕ) → width_of
      table ≡ width → height_of table ≡ height →
      width * form.size ≤ stride → length source ≡ stride * height
      → strided_copy form table source stride ≡ record
      { answer = Ok tt; table = strided_table form width height stride source }
  accepted_copy form table source stride width height w h fits whole =
      rw (w, h, le-ltb stride (width * form.size) fits, eq-eqb (length source) (stride * height) whole) refl

  -- A copy that succeeds has passed both checks.
  module _ (form : PixelForm T) (table : Table T) (source : List ℕ) (stride : ℕ)
      (done : (strided_copy form table source stride).answer ≡ Ok tt) where
    tests : (width_of table * form.size ≤ stride) × (length source ≡ stride * height_of table)
    tests = elim (cases_lt stride (width_of table * form.size)) [
      | inl short ↦ let refused = rw (lt-ltb stride (width_of table * form.size) short) at done in cc
      | inr fits ↦ elim (eqb_tells (length source) (stride * height_of table)) [
        | inl same ↦ (fits, same.1)
        | inr other ↦ let refused = rw (le-ltb stride (width_of table * form.size) fits, other.0) at done in cc
      ]
    ]

    done_table : (strided_copy form table source stride).table ≡ strided_table form (width_of table) (height_of table)
        stride source
    done_table = ap (λ outcome. outcome.table) (accepted_copy form table source stride (width_of table)
        (height_of table) refl refl tests.0 tests.1)

  module _ (form : PixelForm T) (back : (v : ℕ) → v < 256 ^ form.size → form.value (form.pixel_of v) ≡ v)
      (old new : Table T) (source : List ℕ) (bytes :
      AreBytes source) where
    -- After a copy with a stride, the bytes of the table are the fronts of the pieces, joined.
    pub strided_bytes : (stride : ℕ) (r : Result (Unit {0}) CopyError) → r ≡
        (strided_copy form old source stride).answer →
        new ≡ (strided_copy form old source stride).table
        → OnOk r (byte_list form new ≡ row_major (piece_fronts (width_of old * form.size) stride (height_of old)
        source))
    strided_bytes stride (Err e) answer table = tt
    strided_bytes stride (Ok u) answer table =
        let done : (strided_copy form old source stride).answer ≡ Ok tt = sym answer in
        let passed = tests form old source stride done in
        ap (byte_list form) (table ∙ done_table form old source stride done) ∙
        table_comes_back form back (width_of old) (height_of old) stride source passed.0 passed.1 bytes

    -- After a packed copy, the bytes of the table are the source.
    pub packed_bytes : (r : Result (Unit {0}) CopyError) → r ≡ (packed_byte_copy form old source).answer → new ≡
        (packed_byte_copy form old source).table
        → OnOk r (byte_list form new ≡ source)
    packed_bytes (Err e) answer table = tt
    packed_bytes (Ok u) answer table =
        let row : ℕ = width_of old * form.size in
        let done : (strided_copy form old source row).answer ≡ Ok tt = sym answer in
        strided_bytes row (Ok u) answer table ∙ ap row_major (fronts_of_packed row (height_of old) source) ∙
        row_major-cut_rows row (height_of old) source (tests form old source row done).1

-- Rows of one-byte pixels are the pieces of the source.
one_byte_rows : (width height : ℕ) (source : List ℕ) → length source ≡ width * height →
    map (pixels_of_bytes one_byte width) (cut_rows width height source) ≡ cut_rows width height source
one_byte_rows width zero source long = refl
one_byte_rows width (suc height) source long =
    let first : length (take width source) ≡ width = length-take-le width source (omega arith) in
    let row : pixels_of_bytes one_byte width (take width source) ≡ take width source = rw first at
    (one_byte_pixels (take width source)) in
    rw (row, one_byte_rows width height (drop width source) (omega (arith, length-drop width source))) refl

-- For pixels of one byte, both packed copies are equal if the number of pixels of the table fits into a `usize`.
pub one_byte_copies : (table : Table ℕ) (source : List ℕ) → width_of table * height_of table ≤ usize_max →
    packed_byte_copy one_byte table source ≡ packed_copy table source
one_byte_copies table source counted =
    let width : ℕ = width_of table in
    let height : ℕ = height_of table in
    let one : width * 1 ≡ width = omega arith in
    let told : min (width * height) usize_max ≡ width * height = omega arith in
    rw (one, le-ltb width width (omega arith)) (elim (eqb_tells (length source) (width * height)) [
      | inl same ↦ rw (same.0, fronts_of_packed width height source, one_byte_rows width height source same.1) refl
      | inr other ↦ rw (other.0, told) refl
    ])
