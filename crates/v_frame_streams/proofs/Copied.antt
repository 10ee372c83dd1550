-- A table whose top left part is another table agrees with it at each position.
use Rattle.std.proofs.Common.{ℕ, ◌≡◌, ◌+◌, ◌<◌, subst, arith}
use Rattle.v_frame.specs.Prelude.{Table, pixel_at}

module _ {T : Type 0} (copied source : Table T) (width height : ℕ) where
  pub agree_from_the_corner : ((i j : ℕ) → i < width → j < height → pixel_at copied (0 + i) (0 + j) ≡ pixel_at source i
      j)
      → (x y : ℕ) → x < width → y < height → pixel_at copied x y ≡ pixel_at source x y
  agree_from_the_corner all x y across down =
      let column : 0 + x ≡ x = omega arith in
      let row : 0 + y ≡ y = omega arith in
      subst (λ (i : ℕ). pixel_at copied i y ≡ pixel_at source x y) column
      (subst (λ (j : ℕ). pixel_at copied (0 + x) j ≡ pixel_at source x y) row (all x y across down))
