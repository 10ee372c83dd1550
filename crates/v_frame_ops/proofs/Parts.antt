-- Writes into a rectangle of the rows of a buffer: the pixels that change, and the pixels that stay unchanged.
use Rattle.std.proofs.Common.{ℕ, ◌≡◌, ◌≢◌, ◌+◌, ◌-◌, ◌*◌, ◌<◌, ◌≤◌, ◌⊎◌, List, ◌++◌, length, take, drop, slice_get}
use Rattle.std.proofs.Common.{inl, inr, refl, sym, ◌∙◌, ap, arith, length-take-le, length-drop, length-append, ⊎_elim}
use Rattle.std.proofs.Common.{option_and_then}
use Rattle.std.proofs.lemmas.Bool.{cases_lt}
use Rattle.std.proofs.lemmas.Nat.{same_from_place}
use Rattle.v_frame.specs.Prelude.{pixel_at, strided_rows, KeepsRest, RowsFit}
use Rattle.v_frame_raster.specs.StridedRows.{IsInsideTable}
use Rattle.v_frame_raster.proofs.tables.Lists.{slice_get-take, slice_get-drop}
use Rattle.v_frame_raster.proofs.tables.Parts.{slice_get-front, slice_get-back}
use Rattle.v_frame_raster.proofs.tables.Places.{no_pixel_below, no_pixel_beside}
use Rattle.v_frame_raster.proofs.tables.Strides.{AreRows, height_is, width_is, part_begins, part_fits, rows_are_wide, strided_row}

-- A pixel of the rows is an entry of the buffer.
entry_of : {T : Type 0} (width height stride : ℕ) (xs : List T) (x y : ℕ) → width ≤ stride → x < width → y < height
    → pixel_at (strided_rows width height stride xs) x y ≡ slice_get xs (stride * y + x)
entry_of width height stride xs x y apart across down =
    ap (option_and_then (λ row. slice_get row x)) (strided_row width height stride xs y apart down)
    ∙ slice_get-take width (drop (stride * y) xs) x across ∙ slice_get-drop (stride * y) xs x

-- The rows of a buffer, and a rectangle inside them.
pub record IsPart (width height stride x y w h entries : ℕ) : Type 0 where
  pub fit : RowsFit width height stride entries
  pub wide : 0 < w
  pub high : 0 < h
  pub across : x + w ≤ width
  pub down : y + h ≤ height

pub part_of : (width height stride x y w h entries : ℕ) → RowsFit width height stride entries → 0 < w → 0 < h
    → x + w ≤ width → y + h ≤ height → IsPart width height stride x y w h entries
part_of width height stride x y w h entries fit wide high across down =
    record { fit = fit; wide = wide; high = high; across = across; down = down }

module _ {T : Type 0} (width height stride x y w h : ℕ) (old : List T)
    (part : IsPart width height stride x y w h (length old)) where
  abbrev origin : ℕ
  origin = stride * y + x

  known : AreRows width height stride old (strided_rows width height stride old)
  known = record { is = refl; fit = part.fit }

  is_inside : IsInsideTable (strided_rows width height stride old) x y w h
  is_inside = record {
    wide = part.wide;
    high = part.high;
    across = omega (arith, part.across, width_is known);
    down = omega (arith, part.down, height_is known);
  }

  pub fits_behind : RowsFit w h stride (length (drop origin old))
  fits_behind = part_fits known is_inside

  pub begins : origin ≤ length old
  begins = part_begins known is_inside

  -- The index of a pixel of the rectangle, counted from the first entry of the rectangle and from the first entry of
  -- the buffer.
  place_is : (i j : ℕ) → stride * (y + j) + (x + i) ≡ origin + (stride * j + i)
  place_is i j = omega arith

  module _ (new : List T) (rest : KeepsRest w h stride (drop origin old) new) where
    abbrev written : List T
    written = take origin old ++ new

    front_long : length (take origin old) ≡ origin
    front_long = length-take-le origin old begins

    as_long : length written ≡ length old
    as_long =
        length-append (take origin old) new
        ∙ omega (arith, front_long, rest.count, length-drop origin old, begins)

    kept_at : (place : ℕ) → ((i j : ℕ) → i < w → j < h → place ≢ stride * (y + j) + (x + i))
        → slice_get written place ≡ slice_get old place
    kept_at place outside = elim (cases_lt place origin) [
      | inl above ↦ slice_get-front (take origin old) new place (omega (arith, front_long))
          ∙ slice_get-take origin old place above
      | inr from ↦
          let k : ℕ = place - origin in
          let there : place ≡ length (take origin old) + k = omega (arith, front_long) in
          let back_there : origin + k ≡ place = omega arith in
          let same = rest.others k (λ i j across down e.
          outside i j across down (omega (arith, e, place_is i j))) in
          ap (slice_get written) there ∙ slice_get-back (take origin old) new k ∙ same
          ∙ slice_get-drop origin old k ∙ ap (slice_get old) back_there
    ]

    pub shown_inside : (i j : ℕ) → i < w → j < h
        → pixel_at (strided_rows width height stride written) (x + i) (y + j)
        ≡ pixel_at (strided_rows w h stride new) i j
    shown_inside i j across down =
        let there : stride * (y + j) + (x + i) ≡ length (take origin old) + (stride * j + i) =
        omega (arith, front_long, place_is i j) in
        entry_of width height stride written (x + i) (y + j) part.fit.apart (omega (arith, across, part.across))
        (omega (arith, down, part.down))
        ∙ ap (slice_get written) there ∙ slice_get-back (take origin old) new (stride * j + i)
        ∙ sym (entry_of w h stride new i j fits_behind.apart across down)

    -- Two pixels with the same entry have the same column and row.
    apart : (i j i' j' : ℕ) → i < width → i' < w → stride * j + i ≡ stride * (y + j') + (x + i')
        → (j ≡ y + j') × (i ≡ x + i')
    apart i j i' j' across across' e =
        same_from_place j i (y + j') (x + i') stride (omega (arith, across, part.fit.apart))
        (omega (arith, across', part.across, part.fit.apart)) (omega (arith, e))

    kept_there : (i j : ℕ) → i < width → j < height → ((i < x) ⊎ (x + w ≤ i)) ⊎ ((j < y) ⊎ (y + h ≤ j))
        → pixel_at (strided_rows width height stride written) i j ≡ pixel_at (strided_rows width height stride old) i j
    kept_there i j across down outside =
        entry_of width height stride written i j part.fit.apart across down
        ∙ kept_at (stride * j + i) (λ i' j' across' down' e.
        let same = apart i j i' j' across across' e in
        ⊎_elim (⊎_elim (λ o. omega (arith, same.1, across')) (λ o. omega (arith, same.1, across')))
        (⊎_elim (λ o. omega (arith, same.0, down')) (λ o. omega (arith, same.0, down'))) outside)
        ∙ sym (entry_of width height stride old i j part.fit.apart across down)

    known_written : AreRows width height stride written (strided_rows width height stride written)
    known_written = record { is = refl; fit = rw (as_long) part.fit }

    -- Pixels outside the rectangle are unchanged. Outside the rows there is no pixel, neither before nor after the
    -- write.
    pub kept_beside : (i j : ℕ) → ((i < x) ⊎ (x + w ≤ i)) ⊎ ((j < y) ⊎ (y + h ≤ j))
        → pixel_at (strided_rows width height stride written) i j ≡ pixel_at (strided_rows width height stride old) i j
    kept_beside i j outside = elim (cases_lt i width) [
      | inr beyond ↦ no_pixel_beside _ width i j (rows_are_wide known_written) beyond
          ∙ sym (no_pixel_beside _ width i j (rows_are_wide known) beyond)
      | inl across ↦ elim (cases_lt j height) [
        | inl down ↦ kept_there i j across down outside
        | inr below ↦ no_pixel_below _ i j (omega (arith, below, height_is known_written))
            ∙ sym (no_pixel_below _ i j (omega (arith, below, height_is known)))
      ]
    ]

    pub kept_rest : KeepsRest width height stride old written
    kept_rest = record {
      count = as_long;
      others = λ place none. kept_at place (λ i j across down e.
          none (x + i) (y + j) (omega (arith, across, part.across)) (omega (arith, down, part.down)) e);
    }
