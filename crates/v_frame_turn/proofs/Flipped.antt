-- The row of a table that becomes row `y` of the flipped table.
use Rattle.std.proofs.Common.{ℕ, ◌≡◌, ◌<◌, Bool, false, true, List, length, map, Some, slice_get, refl, sym, ◌∙◌, ap}
use Rattle.std.proofs.lemmas.List.{length-map, length-reverse}
use Rattle.v_frame.specs.Prelude.{Table, height_of}
use Rattle.v_frame_raster.proofs.tables.Lists.{slice_get-map}
use Rattle.v_frame_raster.proofs.tables.ListItems.{reversed_item}
use Rattle.v_frame_turn.specs.Turning.{flipped, index_from, list_from}

module _ {X : Type 0} where
  pub length-list_from : (from_end : Bool) (xs : List X) → length (list_from from_end xs) ≡ length xs
  length-list_from false xs = refl
  length-list_from true xs = length-reverse xs

  item_from : (from_end : Bool) (xs : List X) (n i : ℕ) (x : X) → length xs ≡ n → i < n
      → slice_get xs (index_from from_end n i) ≡ Some x → slice_get (list_from from_end xs) i ≡ Some x
  item_from false xs n i x count within is = is
  item_from true xs n i x count within is = reversed_item xs n i x count within is

module _ {T : Type 0} where
  pub height_of_flipped : (from_bottom mirrored : Bool) (rows : Table T)
      → height_of (flipped from_bottom mirrored rows) ≡ height_of rows
  height_of_flipped from_bottom mirrored rows =
      length-list_from from_bottom (map (list_from mirrored) rows) ∙ length-map rows (list_from mirrored)

  pub flipped_row : (rows : Table T) (h : ℕ) (from_bottom mirrored : Bool) (y at : ℕ) (row : List T) → height_of rows ≡ h
      → y < h → at ≡ index_from from_bottom h y → slice_get rows at ≡ Some row
      → slice_get (flipped from_bottom mirrored rows) y ≡ Some (list_from mirrored row)
  flipped_row rows h from_bottom mirrored y at row high below at_is is =
      let turned = map (list_from mirrored) rows in
      item_from from_bottom turned h y (list_from mirrored row) (length-map rows (list_from mirrored) ∙ high) below
      (ap (slice_get turned) (sym at_is) ∙ slice_get-map (list_from mirrored) rows at row is)
