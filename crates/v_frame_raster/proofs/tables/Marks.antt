-- The mark of each index of a buffer.
use Rattle.std.proofs.Common.{ℕ, zero, suc, ◌≡◌, ◌+◌, ◌-◌, ◌*◌, ◌<◌, ◌≤◌, List, [], ◌∷◌, ◌++◌, Some, None, false, ltb}
use Rattle.std.proofs.Common.{refl, sym, ◌∙◌, ap, arith, append_assoc, append-nil, inl, inr}
use Rattle.std.proofs.lemmas.Bool.{lt-ltb, cases_lt}
use Rattle.std.proofs.lemmas.Bool.Decides.{nat_tests}
use Rattle.v_frame_raster.specs.Geometry.{Geometry, stride_of, alloc_height_of, Border, Piece, border_piece}
use Rattle.v_frame_raster.specs.Geometry.{visible_piece, times, outer_row, crossing_row, cutting_plan, mark_at}
use Rattle.v_frame_raster.specs.RasterLaws.{HasMarks}
use Rattle.v_frame_raster.proofs.Plans.{total, total-times, total-cutting_plan}

-- The first piece has its own entries, and the marks after them are those of the other pieces.
pub mark_at-here : (piece : Piece) (q : List Piece) (n : ℕ) → n < piece.entries
    → mark_at (piece ∷ q) n ≡ Some piece.mark
mark_at-here piece q n h = rw (lt-ltb n piece.entries h) refl

pub mark_at-past : (piece : Piece) (q : List Piece) (n : ℕ) → mark_at (piece ∷ q) (piece.entries + n) ≡ mark_at q n
mark_at-past piece q n =
    let past : ltb (piece.entries + n) piece.entries ≡ false = grind (arith, nat_tests) in
    let rest : piece.entries + n - piece.entries ≡ n = omega arith in
    rw (past, rest) refl

-- The indices of a plan have its marks, whatever pieces follow.
mark_at-front : (p q : List Piece) (n : ℕ) → n < total p → mark_at (p ++ q) n ≡ mark_at p n
mark_at-front [] q n h = absurd (omega arith)
mark_at-front (piece ∷ p) q n h = elim (cases_lt n piece.entries) [
  | inl here ↦ rw (mark_at-here piece (p ++ q) n here) (sym (mark_at-here piece p n here))
  | inr past ↦
      let rest : ℕ = n - piece.entries in
      let e : n ≡ piece.entries + rest = omega arith in
      rw (e, mark_at-past piece (p ++ q) rest, mark_at-past piece p rest) (mark_at-front p q rest (omega arith))
]

-- After the pieces of a plan, the marks are those of the next plan.
pub mark_at-append : (p q : List Piece) (n : ℕ) → mark_at (p ++ q) (total p + n) ≡ mark_at q n
mark_at-append [] q n = ap (mark_at q) (omega arith)
mark_at-append (piece ∷ p) q n =
    let e : piece.entries + total p + n ≡ piece.entries + (total p + n) = omega arith in
    rw (e, mark_at-past piece (p ++ q) (total p + n)) (mark_at-append p q n)

-- After all pieces, there is no mark.
mark_past : (p : List Piece) (n : ℕ) → total p ≤ n → mark_at p n ≡ None
mark_past [] n h = refl
mark_past (piece ∷ p) n h =
    let rest : ℕ = n - piece.entries in
    let e : n ≡ piece.entries + rest = omega arith in
    rw (e, mark_at-past piece p rest) (mark_past p rest (omega arith))

-- Pieces that are repeated n times have their marks each time. The marks of the following pieces come after them.
past_times : (n : ℕ) (pieces rest : List Piece) (width place : ℕ) → total pieces ≡ width →
    mark_at (times n pieces ++ rest) (n * width + place) ≡ mark_at rest place
past_times n pieces rest width place w =
    let same : n * width ≡ total (times n pieces) = omega (arith, total-times n pieces, ap (λ k. n * k) w) in
    let e : n * width + place ≡ total (times n pieces) + place = omega (arith, same) in
    rw e (mark_at-append (times n pieces) rest place)

at_turn : (n i : ℕ) (pieces rest : List Piece) (width place : ℕ) → total pieces ≡ width → i < n → place < width →
    mark_at (times n pieces ++ rest) (i * width + place) ≡ mark_at pieces place
at_turn zero i pieces rest width place w h inside = absurd (omega arith)
at_turn (suc n) zero pieces rest width place w h inside =
    let e : 0 * width + place ≡ place = omega arith in
    rw (e, append_assoc pieces (times n pieces) rest)
    (mark_at-front pieces (times n pieces ++ rest) place (omega arith))
at_turn (suc n) (suc i) pieces rest width place w h inside =
    let e : suc i * width + place ≡ total pieces + (i * width + place) = omega (arith, w) in
    rw (
      e,
      append_assoc pieces (times n pieces) rest,
      mark_at-append pieces (times n pieces ++ rest) (i * width + place),
    )
    (at_turn n i pieces rest width place w (omega arith) inside)

module _ (g : Geometry) where
  -- An index in a row above the visible rectangle, in a row that crosses it, and in a row below it.
  mark_above : (row column : ℕ) → row < g.pad_top → column < stride_of g
      → mark_at (cutting_plan g) (row * stride_of g + column) ≡ Some Border
  mark_above row column high wide =
      at_turn g.pad_top row (outer_row g) _ (stride_of g) column (omega arith) high wide
      ∙ mark_at-here (border_piece (stride_of g)) [] column wide

  crossing : (y column : ℕ) → y < g.height → column < stride_of g
      → mark_at (cutting_plan g) ((g.pad_top + y) * stride_of g + column)
      ≡ mark_at (crossing_row g) column
  crossing y column high wide =
      let e : (g.pad_top + y) * stride_of g + column
      ≡ g.pad_top * stride_of g + (y * stride_of g + column) = omega arith in
      rw (e, past_times g.pad_top (outer_row g) _ (stride_of g) (y * stride_of g + column) (omega arith))
      (at_turn g.height y (crossing_row g) _ (stride_of g) column (omega arith) high wide)

  mark_below : (row column : ℕ) → g.pad_top + g.height ≤ row → row < alloc_height_of g → column < stride_of g →
      mark_at (cutting_plan g) (row * stride_of g + column) ≡ Some Border
  mark_below row column low high wide =
      let stride = stride_of g in
      let below : ℕ = row - (g.pad_top + g.height) in
      let split : row ≡ g.pad_top + g.height + below = omega arith in
      let e : row * stride + column
      ≡ g.pad_top * stride + (g.height * stride + (below * stride + column)) = omega (
        arith,
        ap (λ r. r * stride) split,
      ) in
      rw (
        e,
        past_times g.pad_top (outer_row g) _ stride (g.height * stride + (below * stride + column)) (omega arith),
        past_times g.height (crossing_row g) _ stride (below * stride + column) (omega arith),
        ← append-nil (times g.pad_bottom (outer_row g)),
        at_turn g.pad_bottom below (outer_row g) [] stride column (omega arith) (omega arith) wide,
      ) (mark_at-here (border_piece stride) [] column wide)

  pub has_marks : HasMarks g
  has_marks =
      let right_piece = border_piece g.pad_right ∷ [] in
      let past_left = mark_at-past (border_piece g.pad_left) (visible_piece g.width ∷ right_piece) in
      record {
        above = mark_above;
        left = λ y column high wide.
            crossing y column high (omega arith)
            ∙ mark_at-here (border_piece g.pad_left) (visible_piece g.width ∷ right_piece) column wide;
        visible = λ x y wide high.
            crossing y (g.pad_left + x) high (omega arith) ∙ past_left x
            ∙ mark_at-here (visible_piece g.width) right_piece x wide;
        right = λ y column high from wide.
            let past : ℕ = column - (g.pad_left + g.width) in
            let e : column ≡ g.pad_left + (g.width + past) = omega arith in
            crossing y column high wide ∙ ap (mark_at (crossing_row g)) e ∙ past_left (g.width + past) ∙
            mark_at-past (visible_piece g.width) right_piece past
            ∙ mark_at-here (border_piece g.pad_right) [] past (omega arith);
        below = mark_below;
        past = λ place end. mark_past (cutting_plan g) place (omega (arith, total-cutting_plan g));
      }
