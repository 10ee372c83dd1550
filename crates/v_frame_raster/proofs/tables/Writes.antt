-- An entry that is set inside the visible rectangle is a pixel of the table, and the border is unchanged. Also:
-- writes into two adjacent parts of a list.
use Rattle.std.proofs.Common.{ℕ, ◌≡◌, ◌+◌, ◌-◌, ◌<◌, ◌≤◌, ◌↔◌, List, [], ◌++◌, length, take, drop, Option, Some, None}
use Rattle.std.proofs.Common.{IsNone, MutBor, slice_get, slice_set, refl, ◌∙◌, ap, arith, append-nil, length-take-le}
use Rattle.std.proofs.Common.{length-drop, length-set, inl, inr, min, sym}
use Rattle.std.specs.Option.{option_copied_mut}
use Rattle.std.proofs.lemmas.Bool.{cases_lt}
use Rattle.std.proofs.lemmas.List.{drop_all, set_past}
use Rattle.v_frame_raster.specs.Geometry.{alloc_size_of, usize_max, place_of}
use Rattle.v_frame_raster.specs.Raster.{Raster, raster}
use Rattle.v_frame_raster.specs.Writes.{with_two_parts, with_entry, WritesPixel, WritesEachPixel}
use Rattle.v_frame_raster.proofs.tables.Lists.{set_in_part}
use Rattle.v_frame_raster.proofs.Plans.{row_start, place_of_row, row_within}
use Rattle.v_frame_raster.proofs.tables.Pictures.{shown_row, overwritten, shown_overwritten, border_overwritten}
use Rattle.v_frame_raster.proofs.tables.Places.{none_past_end}

module _ {T : Type 0} (p : Raster T) (x y : ℕ) (pixel : T) (wide : x < p.geometry.width) (high : y < p.geometry.height)
    (whole : length p.buffer ≡ alloc_size_of p.geometry) where
  abbrev row : List T
  row = take p.geometry.width (drop (row_start p.geometry y) p.buffer)

  row_length : length row ≡ p.geometry.width
  row_length = length-take-le p.geometry.width (drop (row_start p.geometry y) p.buffer) (omega (
    arith,
    length-drop (row_start p.geometry y) p.buffer,
    row_within p.geometry y high,
  ))

  new_length : length (slice_set row x pixel) ≡ p.geometry.width
  new_length = length-set row x pixel ∙ row_length

  -- Setting the entry is writing the row with the pixel set.
  entry_is_in_row : slice_set p.buffer (place_of p.geometry x y) pixel
      ≡ overwritten p.buffer (row_start p.geometry y) (slice_set row x pixel)
  entry_is_in_row =
      let g = p.geometry in
      let at : place_of g x y ≡ row_start g y + x = omega (arith, place_of_row g y (omega arith)) in
      rw (at, new_length)
      (set_in_part p.buffer (row_start g y) g.width x pixel wide (omega (arith, row_within g y high)))

  pub writes_pixel : WritesPixel p x y (with_entry p x y pixel) pixel
  writes_pixel =
      let g = p.geometry in
      let inside : row_start g y + g.width ≤ length p.buffer = omega (arith, row_within g y high) in
      record {
        geometry = refl;
        border = rw entry_is_in_row (border_overwritten g p.buffer (slice_set row x pixel) y high new_length inside);
        table =
            rw (
              entry_is_in_row,
              shown_overwritten g p.buffer (slice_set row x pixel) y high new_length inside,
              shown_row p y high,
            ) refl;
      }

pub writes_each_pixel : {T : Type 0} (p : Raster T) (x y : ℕ) → x < p.geometry.width → y < p.geometry.height
    → length p.buffer ≡ alloc_size_of p.geometry
    → WritesEachPixel p x y
writes_each_pixel p x y wide high whole = λ pixel. writes_pixel p x y pixel wide high whole

-- A write at a saturated index has the effect of a write at the exact index.
pub counted_set : {X : Type 0} (xs : List X) (place : ℕ) (entry : X) → length xs ≤ usize_max
    → slice_set xs (min place usize_max) entry ≡ slice_set xs place entry
counted_set xs place entry fits =
    elim (cases_lt usize_max place) [
      | inl past ↦ set_past xs _ entry (omega arith) ∙ sym (set_past xs place entry (omega arith))
      | inr within ↦ let e : min place usize_max ≡ place = omega arith in rw e
    ]

-- The effect of the code's write at an index.
pub set_at : {T : Type 0} (p : Raster T) (x y place : ℕ) (entry : T) → place ≡ place_of p.geometry x y →
    raster p.geometry (slice_set p.buffer place entry) ≡ with_entry p x y entry
set_at p x y place entry at = ap (λ k. raster p.geometry (slice_set p.buffer k entry)) at

-- There is no entry at an index if and only if it is past the end.
pub none_past : {X : Type 0} (r : Option (MutBor X)) (xs : List X) (place : ℕ)
    → option_copied_mut r ≡ slice_get xs place → IsNone r ↔ (length xs ≤ place)
none_past None xs place e = none_past_end xs place None e
none_past (Some r) xs place e = none_past_end xs place (Some r.now) e

module _ {T : Type 0} where
  -- Two adjacent parts, up to the end of a list.
  pub parts_to_the_end : (xs ys zs : List T) (start width : ℕ) → start + width ≤ length xs →
      with_two_parts xs start width (start + width) (length xs - (start + width)) ys zs ≡ take start xs ++ (ys ++ zs)
  parts_to_the_end xs ys zs start width inside =
      let end = start + width in
      let between : drop end (take end xs) ≡ [] =
      drop_all end (take end xs) (omega (arith, length-take-le end xs inside)) in
      let behind : drop (end + (length xs - end)) xs ≡ [] =
      drop_all (end + (length xs - end)) xs (omega (arith, inside)) in
      rw (between, behind) (ap (λ r. take start xs ++ (ys ++ r)) (append-nil zs))
