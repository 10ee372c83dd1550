-- A whole buffer of which only the visible rows were written, from its first visible pixel on: these rows are its
-- table, and its border is unchanged.
use Rattle.std.proofs.Common.{ℕ, ◌≡◌, ◌+◌, ◌-◌, ◌*◌, List, ◌++◌, length, take, drop, Some, slice_get, inl, inr, refl}
use Rattle.std.proofs.Common.{sym, ◌∙◌, ap, arith, length-take-le, length-drop, length-append}
use Rattle.std.proofs.lemmas.Bool.{cases_lt}
use Rattle.std.proofs.lemmas.List.{drop_at}
use Rattle.std.specs.List.{refill}
use Rattle.v_frame_raster.specs.Geometry.{Geometry, IsGeometry, Border, Visible, cutting_plan, mark_at, place_of}
use Rattle.v_frame_raster.specs.Geometry.{stride_of, alloc_size_of, origin_of}
use Rattle.v_frame_raster.specs.Raster.{raster, table_of, border_of}
use Rattle.v_frame_raster.specs.StridedRows.{strided_rows, KeepsRest}
use Rattle.v_frame_raster.proofs.tables.Entries.{made_of_entries}
use Rattle.v_frame_raster.proofs.tables.Lists.{slice_get-take, slice_get-drop, refill_same}
use Rattle.v_frame_raster.proofs.tables.OwnPlaces.{has_places}
use Rattle.v_frame_raster.proofs.tables.Parts.{slice_get-front, slice_get-back}
use Rattle.v_frame_raster.proofs.tables.Strides.{visible_begin, visible_are}

module _ {T : Type 0} (g : Geometry) (xs ys : List T) (origin stride : ℕ) (origin_at : origin ≡ origin_of g)
    (stride_is : stride ≡ stride_of g)
    (valid : IsGeometry g) (whole : length xs ≡ alloc_size_of g)
    (kept : KeepsRest g.width g.height stride (drop origin xs) ys) where
  abbrev written : List T
  written = take origin xs ++ ys

  front : length (take origin xs) ≡ origin
  front = length-take-le origin xs (visible_begin g xs origin stride origin_at stride_is valid whole)

  pub length-visible_written : length (take origin xs ++ ys) ≡ length xs
  length-visible_written =
      let begins = visible_begin g xs origin stride origin_at stride_is valid whole in
      length-append (take origin xs) ys ∙ omega (arith, front, kept.count, length-drop origin xs, begins)

  pub visible_written : table_of (raster g (take origin xs ++ ys)) ≡ strided_rows g.width g.height stride ys
  visible_written =
      sym (visible_are g written origin stride origin_at stride_is valid (length-visible_written ∙ whole))
      ∙ ap (strided_rows g.width g.height stride) (drop_at (take origin xs) ys origin front)

  kept_at : (place : ℕ) → mark_at (cutting_plan g) place ≡ Some Border → slice_get written place ≡ slice_get xs place
  kept_at place is = elim (cases_lt place origin) [
    | inl above ↦ slice_get-front (take origin xs) ys place (omega (arith, front)) ∙ slice_get-take origin xs place
        above
    | inr from ↦
        let i : ℕ = place - origin in
        let there : place ≡ length (take origin xs) + i = omega (arith, front) in
        let back : origin + i ≡ place = omega arith in
        let same = kept.others i (λ x y across down e.
        let visible = (has_places g).visible x y across down in
        let at : place ≡ place_of g x y = omega (arith, e, origin_at, ap (λ s. s * y) stride_is) in
        let no : Some Border ≡ Some Visible = sym is ∙ ap (mark_at (cutting_plan g)) at ∙ visible in
        cc) in
        ap (slice_get written) there ∙ slice_get-back (take origin xs) ys i ∙ same ∙ slice_get-drop origin xs i ∙ ap
        (slice_get xs) back
  ]

  pub border_kept : border_of (raster g (take origin xs ++ ys)) ≡ border_of (raster g xs)
  border_kept = (made_of_entries (raster g written) (raster g xs) refl).border kept_at

  -- The same fact for a buffer that is lent as a whole, and keeps its length.
  whole_again : refill (length xs) xs (take origin xs ++ ys) ≡ take origin xs ++ ys
  whole_again = refill_same xs (take origin xs ++ ys) length-visible_written

  pub visible_written_again : table_of (raster g (refill (length xs) xs (take origin xs ++ ys))) ≡ strided_rows g.width
      g.height stride ys
  visible_written_again = ap (λ (b : List T). table_of (raster g b)) whole_again ∙ visible_written

  pub border_kept_again : border_of (raster g (refill (length xs) xs (take origin xs ++ ys))) ≡ border_of (raster g xs)
  border_kept_again = ap (λ (b : List T). border_of (raster g b)) whole_again ∙ border_kept
