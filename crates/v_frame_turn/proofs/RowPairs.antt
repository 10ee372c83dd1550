-- Two rows of a buffer swapped after the buffer was split between them.
use Rattle.std.proofs.Common.{ℕ, ◌≡◌, ◌+◌, ◌*◌, ◌<◌, ◌≤◌, List, ◌++◌, length, take, drop, Some, slice_get, refl, sym}
use Rattle.std.proofs.Common.{◌∙◌, ap}
use Rattle.std.proofs.Common.{slice_set, arith, append_assoc, length-append, length-take-le, length-drop}
use Rattle.std.proofs.Math.Nat.{mul-le-mul_right}
use Rattle.std.proofs.lemmas.List.{take_at, drop_at, take-append-le, drop-append-le}
use Rattle.v_frame.specs.Prelude.{strided_rows, KeepsRest, RowsFit}
use Rattle.v_frame_raster.proofs.tables.Strides.{height_of_rows, strided_row}
use Rattle.v_frame_raster.proofs.tables.StridedWrites.{row_put, rest_put, rest_kept, length-row_put}
use Rattle.v_frame_turn.proofs.Exchanged.{ExchangedBelow, one_more_exchanged}
use borrow.Rule.Slice.PartMut.{put_mid}

module _ {X : Type 0} where
  -- A write into the first part of a list is a write into the list.
  put_in_front : (p q a : List X) (at w : ℕ) → at + w ≤ length p → put_mid at w (p ++ q) a ≡ put_mid at w p a ++ q
  put_in_front p q a at w ends =
      rw (
        take-append-le at p q (omega arith),
        drop-append-le at p q (omega arith),
        drop-append-le w (drop at p) q (omega (arith, length-drop at p)),
      ) (simp append_assoc)

  length-put : (p a : List X) (at w : ℕ) → at + w ≤ length p → length a ≡ w → length (put_mid at w p a) ≡ length p
  length-put p a at w ends long =
      simp (length-append, length-take-le at p (omega (arith, ends)), length-drop) (omega (arith, ends, long))

  -- A write into each of two parts is a write into the list.
  two_parts : (p q a b : List X) (at w : ℕ) → at + w ≤ length p → length a ≡ w
      → put_mid at w p a ++ (b ++ drop w q) ≡ put_mid (length p) w (put_mid at w (p ++ q) a) b
  two_parts p q a b at w ends long =
      let front = put_mid at w p a in
      let same : length front ≡ length p = length-put p a at w ends long in
      rw (put_in_front p q a at w ends, take_at front q (length p) same, drop_at front q (length p) same) refl

-- The buffer after rows were swapped up to row `y`. Everything else is unchanged.
pub record RowsExchanged {X : Type 0} (of : List X → List X) (width height stride : ℕ) (old now : List X) (y : ℕ) : Type
    0
  where
    pub rows : ExchangedBelow of (strided_rows width height stride old) (strided_rows width height stride now) y
    pub rest : KeepsRest width height stride old now

-- The loop step: one more pair of rows. The list was split at the start of the lower row.
module _ {X : Type 0} (of : List X → List X) (w h s : ℕ) (old xs p q a b : List X) (y j : ℕ)
    (fit : RowsFit w h s (length old)) (same : length xs ≡ length old) (is : xs ≡ p ++ q) (at : length p ≡ s * j)
    (pair : y + j + 1 ≡ h) (apart : y < j) (long : length a ≡ w) (long' : length b ≡ w) (upper : a ≡ of (take w q))
    (lower : b ≡ of (take w (drop (s * y) p))) (so_far : RowsExchanged of w h s old xs y) where
  abbrev first : List X
  first = put_mid (s * y) w xs a

  ends : s * y + w ≤ length p
  ends =
      let low : y + 1 ≤ j = omega arith in
      omega (arith, mul-le-mul_right s low, fit.apart, at)

  fits : RowsFit w h s (length xs)
  fits = rw same fit

  high : y < h
  high = omega arith

  low_fits : RowsFit w h s (length first)
  low_fits = rw (length-row_put w h s xs a y fits high long) fits

  low_high : j < h
  low_high = omega arith

  put_twice : put_mid (s * y) w p a ++ (b ++ drop w q) ≡ put_mid (s * j) w first b
  put_twice =
      two_parts p q a b (s * y) w ends long ∙ ap (λ n. put_mid n w (put_mid (s * y) w (p ++ q) a) b) at
      ∙ ap (λ ys. put_mid (s * j) w (put_mid (s * y) w ys a) b) (sym is)

  upper_row : slice_get (strided_rows w h s xs) y ≡ Some (take w (drop (s * y) p))
  upper_row =
      strided_row w h s xs y fit.apart high ∙ rw (
        is,
        drop-append-le (s * y) p q (omega (arith, ends)),
        take-append-le w (drop (s * y) p) q (omega (arith, ends, length-drop (s * y) p)),
      ) refl

  lower_row : slice_get (strided_rows w h s xs) j ≡ Some (take w q)
  lower_row = strided_row w h s xs j fit.apart low_high ∙ rw (is, drop_at p q (s * j) at) refl

  table : strided_rows w h s (put_mid (s * j) w first b) ≡ slice_set (slice_set (strided_rows w h s xs) y a) j b
  table =
      row_put w h s first b j low_fits low_high long'
      ∙ ap (λ rows. slice_set rows j b) (row_put w h s xs a y fits high long)

  pub one_more_pair : RowsExchanged of w h s old (put_mid (s * y) w p a ++ (b ++ drop w q)) (y + 1)
  one_more_pair =
      let count : y + j + 1 ≡ length (strided_rows w h s old) = pair ∙ sym (height_of_rows w h s old) in
      rw put_twice (record {
        rows =
            rw table
            (one_more_exchanged of (strided_rows w h s old) (strided_rows w h s xs) y j (take w (drop (s * y) p))
            (take w q) b a
            count apart so_far.rows upper_row lower_row lower upper);
        rest =
            rest_kept w h s old first _
            (rest_kept w h s old xs first so_far.rest (rest_put w h s xs a y fits high long))
            (rest_put w h s first b j low_fits low_high long');
      })
