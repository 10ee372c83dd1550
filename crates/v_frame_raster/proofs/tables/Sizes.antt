-- The sizes of a table are those of its plane.
use Rattle.std.proofs.Common.{◌≡◌, ◌*◌, ◌<◌, ◌≤◌, inl, inr, List, [], ◌∷◌, length, drop, Some, slice_get, ◌∙◌, ap}
use Rattle.std.proofs.Common.{arith, length-drop, length-take, length-take-le}
use Rattle.std.proofs.lemmas.Bool.{cases_lt}
use Rattle.std.proofs.Math.Nat.{mul-le-mul_right}
use Rattle.v_frame_raster.specs.Geometry.{alloc_size_of}
use Rattle.v_frame_raster.specs.Raster.{Raster, table_of}
use Rattle.v_frame_raster.specs.Table.{Table, width_of, height_of}
use Rattle.v_frame_raster.proofs.Plans.{row_start, row_within, visible_within}
use Rattle.v_frame_raster.proofs.tables.Pictures.{shown_row, length-shown}

module _ {T : Type 0} where
  pub width_of_first : (t : Table T) (row : List T) → slice_get t 0 ≡ Some row → width_of t ≡ length row
  width_of_first [] row e = cc
  width_of_first (first ∷ rows) row e = let same : first ≡ row = cc in ap length same

  -- The sizes of a table are those of its plane.
  pub width_of_shown : (p : Raster T) → 0 < p.geometry.height → length p.buffer ≡ alloc_size_of p.geometry
      → width_of (table_of p) ≡ p.geometry.width
  width_of_shown p h whole =
      let g = p.geometry in
      width_of_first (table_of p) _ (shown_row p 0 h) ∙ length-take-le g.width (drop (row_start g 0) p.buffer) (omega (
        arith,
        length-drop (row_start g 0) p.buffer,
        row_within g 0 h,
      ))

  pub height_of_shown : (p : Raster T) → height_of (table_of p) ≡ p.geometry.height
  height_of_shown p = length-shown p

  -- A table has at most as many pixels as the buffer of its plane has entries.
  pub pixels_within : (p : Raster T) → width_of (table_of p) * height_of (table_of p) ≤ alloc_size_of p.geometry
  pixels_within p =
      let g = p.geometry in
      rw (height_of_shown p) (elim (cases_lt 0 g.height) [
        | inl high ↦
            let first = width_of_first (table_of p) _ (shown_row p 0 high) in
            let wide : width_of (table_of p) ≤ g.width = omega (
              arith,
              first,
              length-take g.width (drop (row_start g 0) p.buffer),
            ) in
            omega (arith, mul-le-mul_right g.height wide, visible_within g)
        | inr none ↦ let flat : g.height ≡ 0 = omega arith in rw flat (omega arith)
      ])
