-- The table of a plane that is filled with one value.
use Rattle.std.proofs.Common.{ℕ, zero, suc, ◌≡◌, ◌-◌, ◌*◌, ◌≤◌, List, [], ◌++◌, drop, replicate, refl, ◌∙◌, arith}
use Rattle.std.proofs.lemmas.List.{take-replicate, drop-replicate}
use Rattle.v_frame.specs.Prelude.{Geometry, Table, stride_of, alloc_size_of, filled, table_of}
use Rattle.v_frame_raster.specs.Geometry.{Piece, times, outer_row, crossing_row}
use Rattle.v_frame_raster.specs.Raster.{cut_by, visible_pieces}
use Rattle.v_frame_planar.specs.Video.{plain_table}

module _ {T : Type 0} (value : T) (g : Geometry) where
  -- The table that a plan cuts from copies of the value.
  abbrev shown : List Piece → List T → Table T
  shown plan xs = visible_pieces (cut_by plan xs)

  -- Rows of the border are not in the table.
  past_outer : (rest : List Piece) (k n : ℕ) → shown (times k (outer_row g) ++ rest) (replicate n value) ≡ shown rest
      (replicate (n - k * stride_of g) value)
  past_outer rest zero n = let all : n - 0 * stride_of g ≡ n = omega arith in rw all
  past_outer rest (suc k) n =
      let less : n - suc k * stride_of g ≡ n - stride_of g - k * stride_of g = omega arith in
      rw (drop-replicate (stride_of g) n value, less) (past_outer rest k (n - stride_of g))

  only_outer : (k : ℕ) (xs : List T) → shown (times k (outer_row g)) xs ≡ []
  only_outer zero xs = refl
  only_outer (suc k) xs = only_outer k (drop (stride_of g) xs)

  -- Each row that crosses the rectangle has the width of the table.
  crossing : (k n : ℕ) → k * stride_of g ≤ n → shown (times k (crossing_row g) ++ times g.pad_bottom (outer_row g))
      (replicate n value) ≡ replicate k
      (replicate g.width value)
  crossing zero n h = only_outer g.pad_bottom (replicate n value)
  crossing (suc k) n h =
      let inside = n - g.pad_left in
      let behind = inside - g.width in
      let row = take-replicate g.width inside value (omega (arith, h)) in
      let later = crossing k (behind - g.pad_right) (omega (arith, h)) in
      rw (
        drop-replicate g.pad_left n value,
        row,
        drop-replicate g.width inside value,
        drop-replicate g.pad_right
            behind value,
        later,
      )

  pub table_of_filled : table_of (filled value g) ≡ plain_table value (g.width, g.height)
  table_of_filled =
      let all = alloc_size_of g in
      let rest = times g.height (crossing_row g) ++ times g.pad_bottom (outer_row g) in
      past_outer rest g.pad_top all ∙ crossing g.height (all - g.pad_top * stride_of g) (omega arith)
