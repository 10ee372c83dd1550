-- Lists that are repeated, joined, reversed or paired, read by index, and tables read by pixels.
use Rattle.std.proofs.Common.{ℕ, zero, suc, ◌≡◌, ◌+◌, ◌-◌, ◌<◌, ◌≤◌, All, List, [], ◌∷◌, ◌++◌, length, map, take, drop}
use Rattle.std.proofs.Common.{replicate, reverse, slice_get, Some, None, refl, sym, ◌∙◌, ap, arith}
use Rattle.std.proofs.lemmas.List.Elements.{All-head, All-tail}
use Rattle.std.proofs.lemmas.List.{get_or-reverse, length-reverse, map-append, reverse-append}
use Rattle.std.proofs.lemmas.Option.{slice_get-get_or}
use Rattle.std.specs.List.{zip}
use Rattle.v_frame_raster.specs.Table.{Table, pixel_at}
use Rattle.v_frame_raster.proofs.tables.Lists.{same_by_slice_get}

module _ {X : Type 0} where
  pub slice_get-replicate : (n k : ℕ) (x : X) → k < n → slice_get (replicate n x) k ≡ Some x
  slice_get-replicate zero k x h = absurd (omega arith)
  slice_get-replicate (suc n) zero x h = refl
  slice_get-replicate (suc n) (suc k) x h = slice_get-replicate n k x (omega arith)

  pub slice_get-append_left : (xs ys : List X) (k : ℕ) → k < length xs → slice_get (xs ++ ys) k ≡ slice_get xs k
  slice_get-append_left [] ys k h = absurd (omega arith)
  slice_get-append_left (x ∷ xs) ys zero h = refl
  slice_get-append_left (x ∷ xs) ys (suc k) h = slice_get-append_left xs ys k (omega arith)

  pub slice_get-append_right : (xs ys : List X) (k : ℕ) → slice_get (xs ++ ys) (length xs + k) ≡ slice_get ys k
  slice_get-append_right [] ys k = let e : 0 + k ≡ k = omega arith in rw e refl
  slice_get-append_right (x ∷ xs) ys k =
      let e : suc (length xs) + k ≡ suc (length xs + k) = omega arith in
      rw e (slice_get-append_right xs ys k)

  -- The items of a reversed list, counted from the other end.
  pub slice_get-reverse : (xs : List X) (k : ℕ) → k < length xs
      → slice_get (reverse xs) k ≡ slice_get xs (length xs - 1 - k)
  slice_get-reverse [] k h = absurd (omega arith)
  slice_get-reverse (x ∷ xs) k h =
      slice_get-get_or (reverse (x ∷ xs)) k x (omega (arith, length-reverse (x ∷ xs)))
      ∙ ap Some (get_or-reverse (x ∷ xs) k x h)
      ∙ sym (slice_get-get_or (x ∷ xs) (length (x ∷ xs) - 1 - k) x (omega arith))

  -- A list with these items is therefore the reversed list.
  pub is_reverse : (xs ys : List X) → length ys ≡ length xs
      → ((k : ℕ) → k < length ys → slice_get ys k ≡ slice_get xs (length xs - 1 - k)) → ys ≡ reverse xs
  is_reverse xs ys same each =
      same_by_slice_get ys (reverse xs) (same ∙ sym (length-reverse xs))
      (λ k h. each k h ∙ sym (slice_get-reverse xs k (omega arith)))

  -- An item at some distance from the end of a list is an item of the reversed list.
  pub reversed_item : (xs : List X) (n k : ℕ) (x : X) → length xs ≡ n → k < n → slice_get xs (n - 1 - k) ≡ Some x
      → slice_get (reverse xs) k ≡ Some x
  reversed_item xs n k x count h is =
      let at : n - 1 - k ≡ length xs - 1 - k = omega arith in
      slice_get-reverse xs k (omega arith) ∙ ap (slice_get xs) (sym at) ∙ is

  -- If the first items of one list are followed by the rest of another list, the next item is from the other list.
  pub slice_get-seam : (new old : List X) (i : ℕ) → i ≤ length new → i < length old
      → slice_get (take i new ++ drop i old) i ≡ slice_get old i
  slice_get-seam new [] i h k = absurd (omega arith)
  slice_get-seam new (o ∷ old) zero h k = refl
  slice_get-seam [] (o ∷ old) (suc i) h k = absurd (omega arith)
  slice_get-seam (n ∷ new) (o ∷ old) (suc i) h k = slice_get-seam new old i (omega arith) (omega arith)

-- A function that is applied to each item of a reversed list.
pub map-reverse : {X Y : Type 0} (f : X → Y) (xs : List X) → map f (reverse xs) ≡ reverse (map f xs)
map-reverse f [] = refl
map-reverse f (x ∷ xs) =
    ap (map f) (reverse-append (x ∷ []) xs) ∙ map-append f (reverse xs) (x ∷ [])
    ∙ ap (λ ys. ys ++ (f x ∷ [])) (map-reverse f xs) ∙ sym (reverse-append (f x ∷ []) (map f xs))

-- The pairs of two lists, by index.
pub slice_get-zip : {X Y : Type 0} (xs : List X) (ys : List Y) (k : ℕ) (x : X) (y : Y) → slice_get xs k ≡ Some x
    → slice_get ys k ≡ Some y → slice_get (zip xs ys) k ≡ Some (x, y)
slice_get-zip (x ∷ xs) (y ∷ ys) zero a b is is1 = cc
slice_get-zip (x ∷ xs) (y ∷ ys) (suc k) a b is is1 = slice_get-zip xs ys k a b is is1
slice_get-zip [] ys k a b is is1 = absurd (let no : None ≡ Some a = is in cc)
slice_get-zip (x ∷ xs) [] k a b is is1 = absurd (let no : None ≡ Some b = is1 in cc)

-- Tables of the same size that agree pixel by pixel are equal.
module _ {T : Type 0} where
  pub same_by_pixel_at : (width : ℕ) (table other : Table T) → length table ≡ length other → All
      (λ row. length row ≡ width) table →
      All (λ row. length row ≡ width) other
      → ((x y : ℕ) → x < width → y < length table → pixel_at table x y ≡ pixel_at other x y) → table ≡ other
  same_by_pixel_at width [] [] same wide wide1 each = refl
  same_by_pixel_at width [] (row1 ∷ other) same wide wide1 each = absurd (omega arith)
  same_by_pixel_at width (row ∷ table) [] same wide wide1 each = absurd (omega arith)
  same_by_pixel_at width (row ∷ table) (row1 ∷ other) same wide wide1 each =
      let long = All-head (λ row. length row ≡ width) row table wide in
      let long1 = All-head (λ row. length row ≡ width) row1 other wide1 in
      let first = same_by_slice_get row row1 (long ∙ sym long1) (λ x h. each x 0 (omega (arith, long)) (omega arith)) in
      let wide2 = All-tail (λ row. length row ≡ width) row table wide in
      let wide3 = All-tail (λ row. length row ≡ width) row1 other wide1 in
      let others = same_by_pixel_at width table other (omega arith) wide2 wide3
      (λ x y h k. each x (suc y) h (omega arith)) in
      cc
