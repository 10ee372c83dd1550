-- Bytes that were decoded come back: for one pixel, for a row, and for a table.
use Rattle.std.proofs.Common.{ℕ, zero, suc, ◌≡◌, ◌+◌, ◌*◌, ◌/◌, ◌%◌, ◌^◌, ◌<◌, ◌≤◌, List, [], ◌∷◌, length, take, drop}
use Rattle.std.proofs.Common.{get_or, refl, sym, ◌∙◌, ap, arith, add-one, lit<, inl, inr, length-take, length-drop}
use Rattle.std.proofs.Common.{length-take-le, take-append-drop}
use Rattle.std.proofs.Math.Nat.{pow-suc, mul_comm, div-div-eq-div-mul, div-one}
use Rattle.std.proofs.lemmas.Grind.{flat_map-append}
use Rattle.std.proofs.lemmas.Bool.{cases_lt}
use Rattle.std.proofs.lemmas.List.{get_or-drop, get_or-take, get_or_past}
use Rattle.v_frame_raster.specs.Pixel.{PixelForm, bytes_from, bytes_of, value_from, value_of_bytes, bytes_of_pixels}
use Rattle.v_frame_raster.specs.Pixel.{byte_list, pixels_of_bytes}
use Rattle.v_frame_raster.specs.Table.{row_major}
use Rattle.v_frame_raster.specs.StridedRows.{piece_fronts, strided_table}

-- Every number of the list is a byte.
pub record AreBytes (bytes : List ℕ) : Type 0 where
  pub below : (i : ℕ) → get_or bytes i 0 < 256

-- A property of every index of a list.
pub are_bytes : (bytes : List ℕ) → ((i d : ℕ) → i < length bytes → get_or bytes i d < 256) → AreBytes bytes
are_bytes bytes h = record {
  below = λ i. elim (cases_lt i (length bytes)) [
    | inl within ↦ h i 0 within
    | inr past ↦ rw (get_or_past bytes i 0 past) (lit< tt)
  ];
}

front_are_bytes : (n : ℕ) (bytes : List ℕ) → AreBytes bytes → AreBytes (take n bytes)
front_are_bytes n bytes h = record {
  below = λ i. elim (cases_lt i n) [
    | inl within ↦ rw (get_or-take n bytes i 0 within) (h.below i)
    | inr past ↦ rw (get_or_past (take n bytes) i 0 (omega (arith, length-take n bytes))) (lit< tt)
  ];
}

rest_are_bytes : (n : ℕ) (bytes : List ℕ) → AreBytes bytes → AreBytes (drop n bytes)
rest_are_bytes n bytes h = record { below = λ i. rw (get_or-drop n bytes i 0) (h.below (n + i)) }

-- One place higher, a byte has 256 times the weight.
value_from-next : (i : ℕ) (bytes : List ℕ) → value_from (i + 1) bytes ≡ 256 * value_from i bytes
value_from-next i [] = omega arith
value_from-next i (byte ∷ bytes) =
    let weight : 256 ^ (i + 1) ≡ 256 ^ i * 256 = ap (λ k. 256 ^ k) (add-one i) ∙ pow-suc 256 i in
    omega (arith, ap (λ w. byte * w) weight, value_from-next (i + 1) bytes)

bytes_from-next : (i n value : ℕ) → bytes_from (i + 1) n value ≡ bytes_from i n (value / 256)
bytes_from-next i zero value = refl
bytes_from-next i (suc n) value =
    let weight : 256 ^ (i + 1) ≡ 256 * 256 ^ i = ap (λ k. 256 ^ k) (add-one i) ∙ pow-suc 256 i
    ∙ mul_comm (256 ^ i) 256 in
    let high : value / 256 ^ (i + 1) ≡ value / 256 / 256 ^ i = ap (λ w. value / w) weight
    ∙ sym (div-div-eq-div-mul value 256 (256 ^ i)) in
    rw (high, bytes_from-next (i + 1) n value) refl

-- The value of a list of bytes fits into this number of bytes, and has these bytes.
pub value_of_bytes-fits : (bytes : List ℕ) → AreBytes bytes → value_of_bytes bytes < 256 ^ length bytes
value_of_bytes-fits [] h = lit< tt
value_of_bytes-fits (byte ∷ bytes) h =
    let first : byte < 256 = h.below 0 in
    let rest = value_of_bytes-fits bytes (record { below = λ i. h.below (suc i) }) in
    omega (arith, rest, value_from-next 0 bytes, pow-suc 256 (length bytes))

pub bytes_of-value_of_bytes : (bytes : List ℕ) → AreBytes bytes → bytes_of (length bytes) (value_of_bytes bytes) ≡ bytes
bytes_of-value_of_bytes [] h = refl
bytes_of-value_of_bytes (byte ∷ bytes) h =
    let first : byte < 256 = h.below 0 in
    let next : value_from 1 bytes ≡ 256 * value_of_bytes bytes = value_from-next 0 bytes in
    let value = value_of_bytes (byte ∷ bytes) in
    let is : value ≡ byte + 256 * value_of_bytes bytes = omega (arith, next) in
    let whole : value / 1 ≡ value = div-one value in
    let low : value / 1 % 256 ≡ byte = omega (arith, is, whole) in
    let high : value / 256 ≡ value_of_bytes bytes = omega (arith, is) in
    rw (
      low,
      bytes_from-next 0 (length bytes) value,
      high,
      bytes_of-value_of_bytes bytes (record { below = λ i. h.below (suc i) }),
    ) refl

module _ {T : Type 0} (form : PixelForm T)
    (back : (v : ℕ) → v < 256 ^ form.size → form.value (form.pixel_of v) ≡ v) where
  -- The bytes of one pixel.
  pixel_comes_back : (group : List ℕ) → length group ≡ form.size → AreBytes group →
      bytes_of form.size (form.value (form.pixel_of (value_of_bytes group))) ≡ group
  pixel_comes_back group long h =
      let fits : value_of_bytes group < 256 ^ form.size = rw (← long) (value_of_bytes-fits group h) in
      ap (bytes_of form.size) (back (value_of_bytes group) fits)
      ∙ ap (λ n. bytes_of n (value_of_bytes group)) (sym long) ∙ bytes_of-value_of_bytes group h

  -- The bytes of a row.
  row_comes_back : (count : ℕ) (bytes : List ℕ) → length bytes ≡ count * form.size → AreBytes bytes →
      bytes_of_pixels form (pixels_of_bytes form count bytes) ≡ bytes
  row_comes_back zero [] long h = refl
  row_comes_back zero (byte ∷ bytes) long h = absurd (omega arith)
  row_comes_back (suc count) bytes long h =
      let first = take form.size bytes in
      let others = drop form.size bytes in
      rw (
        pixel_comes_back first (length-take-le form.size bytes (omega arith)) (front_are_bytes form.size bytes h),
        row_comes_back count others (omega (arith, length-drop form.size bytes)) (rest_are_bytes form.size bytes h),
      ) (take-append-drop form.size bytes)

  -- The bytes of a table: the fronts of the pieces, joined.
  pub table_comes_back : (width height stride : ℕ) (source : List ℕ) → width * form.size ≤ stride
      → length source ≡ stride * height → AreBytes source
      → byte_list form (strided_table form width height stride source)
      ≡ row_major (piece_fronts (width * form.size) stride height source)
  table_comes_back width zero stride source fits long h = refl
  table_comes_back width (suc height) stride source fits long h =
      let one : T → List ℕ = λ pixel. bytes_of form.size (form.value pixel) in
      let piece = take stride source in
      let front = take (width * form.size) piece in
      let rest = drop stride source in
      let rows = strided_table form width height stride rest in
      let piece_long : length piece ≡ stride = length-take-le stride source (omega arith) in
      let front_long : length front ≡ width * form.size = length-take-le (width * form.size) piece (omega arith) in
      let front_bytes = front_are_bytes (width * form.size) piece (front_are_bytes stride source h) in
      let rest_long : length rest ≡ stride * height = omega (arith, length-drop stride source) in
      rw (
        flat_map-append one (pixels_of_bytes form width front) (row_major rows),
        row_comes_back width front front_long front_bytes,
        table_comes_back width height stride rest fits rest_long (rest_are_bytes stride source h),
      ) refl
