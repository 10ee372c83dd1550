-- Each visible pixel has its own index, which lies in a visible piece.
use Rattle.std.proofs.Common.{ℕ, ◌≡◌, ◌+◌, ◌*◌, ◌<◌, ◌≤◌, inl, inr, sym, ap, arith}
use Rattle.std.proofs.lemmas.Bool.{cases_lt}
use Rattle.std.proofs.Math.Nat.{mul-le-mul_right}
use Rattle.v_frame_raster.specs.Geometry.{Geometry, stride_of, place_of}
use Rattle.v_frame_raster.specs.RasterLaws.{HasPlaces}
use Rattle.v_frame_raster.proofs.Plans.{row_start, place_of_row}
use Rattle.v_frame_raster.proofs.tables.Marks.{has_marks}
use Rattle.v_frame_raster.proofs.tables.Places.{place_within}

-- Two different rows have no entry in common.
rows_apart : (g : Geometry) (x y x' y' : ℕ) → x < g.width → y < y' → row_start g y + x ≡ row_start g y' + x' → ⊥
unfolding row_start
rows_apart g x y x' y' hx below e =
    let above : y + 1 ≤ y' = omega arith in
    omega (arith, mul-le-mul_right (stride_of g) above)

same_place : (g : Geometry) (x y x' y' : ℕ) → x < g.width → x' < g.width → row_start g y + x ≡ row_start g y' + x'
    → (x ≡ x') × (y ≡ y')
same_place g x y x' y' hx hx' e =
    elim (cases_lt y y') [
      | inl below ↦ absurd (rows_apart g x y x' y' hx below e)
      | inr not_below ↦ elim (cases_lt y' y) [
        | inl below ↦ absurd (rows_apart g x' y' x y hx' below (sym e))
        | inr not_above ↦ let same : y ≡ y' = omega arith in (omega (arith, ap (row_start g) same), same)
      ]
    ]

pub has_places : (g : Geometry) → HasPlaces g
unfolding row_start
has_places g = record {
  within = place_within g;
  visible = λ x y hx hy.
      let at : place_of g x y
      ≡ (g.pad_top + y) * stride_of g + (g.pad_left + x) = omega (arith, place_of_row g y (omega arith)) in
      rw at ((has_marks g).visible x y hx hy);
  apart = λ x y x' y' hx hy hx' hy' e.
      let high : 0 < g.height = omega arith in
      same_place g x y x' y' hx hx' (omega (arith, place_of_row g y high, place_of_row g y' high));
}

-- The upper row ends at or before the start of the lower row.
pub row_ends_above : (g : Geometry) (y z start next width : ℕ) → y < z → start ≡ place_of g 0 y → next ≡ place_of g 0 z
    → width ≡ g.width → start + width ≤ next
row_ends_above g y z start next width order first second wide =
    let below : y + 1 ≤ z = omega (arith, order) in
    omega (arith, first, second, wide, mul-le-mul_right (stride_of g) below)
