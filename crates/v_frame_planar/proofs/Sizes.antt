-- A copy of bytes does not change the size of a table.
use Rattle.std.proofs.Common.{ℕ, ◌≡◌, List, [], ◌∷◌, refl, arith}
use Rattle.std.proofs.lemmas.List.{length-map}
use Rattle.v_frame.specs.Prelude.{PixelForm, Table, width_of, height_of, strided_copy, strided_table}
use Rattle.v_frame_raster.proofs.tables.CutRows.{length-cut_rows}
use Rattle.v_frame_planar.specs.Planar.{size_of}

module _ {T : Type 0} (form : PixelForm T) (stride : ℕ) (source : List ℕ) where
  -- The table that a source encodes has the size of the target.
  size_of_source : (old : Table T) → size_of (strided_table form (width_of old) (height_of old) stride source) ≡
      size_of old
  size_of_source [] = refl
  size_of_source (row ∷ rows) = simp (length-map, length-cut_rows)

  -- A copy leaves the size unchanged, whether it is rejected or not.
  pub size_after_copy : (old : Table T) → size_of (strided_copy form old source stride).table ≡ size_of old
  size_after_copy old = grind (arith, size_of_source old)
