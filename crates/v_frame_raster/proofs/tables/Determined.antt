-- A buffer is determined by its visible pieces and its border pieces.
use Rattle.std.proofs.Common.{◌≡◌, List, [], ◌∷◌, ◌++◌, length, take, drop, refl, sym, ◌∙◌, arith}
use Rattle.std.proofs.lemmas.List.{take_all}
use Rattle.std.proofs.Math.Seq.{take-add}
use Rattle.v_frame_raster.specs.Geometry.{Geometry, alloc_size_of, Mark, Border, Visible, Piece, cutting_plan}
use Rattle.v_frame_raster.specs.Raster.{raster, cut_by, if_visible, if_border, visible_pieces, border_pieces, table_of}
use Rattle.v_frame_raster.specs.Raster.{border_of}
use Rattle.v_frame_raster.specs.RasterLaws.{DeterminesBuffer}
use Rattle.v_frame_raster.proofs.Plans.{total, total-cutting_plan}

module _ {T : Type 0} where
  -- One piece, and the contributions of the others to the table and to the border.
  same_piece : (mark : Mark) (a b : List T) (shown_a shown_b border_a border_b : List (List T))
      → if_visible mark a ++ shown_a ≡ if_visible mark b ++ shown_b
      → if_border mark a ++ border_a ≡ if_border mark b ++ border_b
      → (a ≡ b) × (shown_a ≡ shown_b) × (border_a ≡ border_b)
  same_piece Border a b shown_a shown_b border_a border_b v o = (cc, v, cc)
  same_piece Visible a b shown_a shown_b border_a border_b v o = (cc, cc, o)

  same_cut : (plan : List Piece) (xs ys : List T) → visible_pieces (cut_by plan xs) ≡ visible_pieces (cut_by plan ys) →
      border_pieces (cut_by plan xs) ≡ border_pieces (cut_by plan ys)
      → take (total plan) xs ≡ take (total plan) ys
  same_cut [] xs ys v b = refl
  same_cut (piece ∷ plan) xs ys v b =
      let n = piece.entries in
      let first = same_piece piece.mark (take n xs) (take n ys) _ _ _ _ v b in
      rw (
        take-add n (total plan) xs,
        take-add n (total plan) ys,
        first.0,
        same_cut plan (drop n xs) (drop n ys) first.1 first.2,
      ) refl

  same_buffer : (g : Geometry) (xs ys : List T) → length xs ≡ alloc_size_of g → length ys ≡ alloc_size_of g
      → table_of (raster g xs) ≡ table_of (raster g ys)
      → border_of (raster g xs) ≡ border_of (raster g ys) → xs ≡ ys
  same_buffer g xs ys whole_x whole_y table border =
      let n = total (cutting_plan g) in
      let size = total-cutting_plan g in
      sym (take_all n xs (omega (arith, size))) ∙ same_cut (cutting_plan g) xs ys table border
      ∙ take_all n ys (omega (arith, size))

pub determines_buffer : (T : Type 0) → DeterminesBuffer T
determines_buffer T p q whole_p whole_q geometry table border =
    let buffer = same_buffer p.geometry p.buffer q.buffer whole_p (rw (← geometry) at whole_q)
    (rw (← geometry) at table) (rw (← geometry) at border) in
    λ i. record { geometry = geometry i; buffer = buffer i }
