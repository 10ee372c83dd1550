-- Changes of the pixels of a row or a table: map each one, or combine each one with a pixel of
-- another row or table.
use Rattle.std.specs.Prelude.{ℕ, ◌≡◌, List, map, Some}
use Rattle.std.specs.List.{zip}
use Rattle.v_frame.specs.Prelude.{Table, pixel_at}

-- `mapped change xs` applies `change` to each item of `xs`. Applied twice, it maps the pixels of a
-- table.
abbrev pub mapped : {X : Type 0} → (X → X) → List X → List X
mapped change xs = map change xs

-- `combined make xs ys` applies `make` to the items of `xs` and `ys` at the same index. Applied
-- twice, it combines the pixels of two tables.
abbrev pub combined : {X : Type 0} → (X → X → X) → List X → List X → List X
combined make xs ys = map (λ pair. make pair.0 pair.1) (zip xs ys)

module _ {T : Type 0} where
  -- Each pixel `p` of `old` became a pixel `q` of `new` at the same position, for which `gives p q`
  -- holds.
  abbrev pub MapsPixels : (T → T → Type 0) → Table T → Table T → Type 0
  MapsPixels gives old new =
      (x y : ℕ) (p : T) → pixel_at old x y ≡ Some p
      → (q : T) × gives p q × (pixel_at new x y ≡ Some q)

  -- Each pixel `p` of `old` and the pixel `q` of `other` at the same position became a pixel `r` of
  -- `new` at that position, for which `gives p q r` holds.
  abbrev pub CombinesPixels : (T → T → T → Type 0) → Table T → Table T → Table T → Type 0
  CombinesPixels gives old other new =
      (x y : ℕ) (p q : T) → pixel_at old x y ≡ Some p → pixel_at other x y ≡ Some q
      → (r : T) × gives p q r × (pixel_at new x y ≡ Some r)
