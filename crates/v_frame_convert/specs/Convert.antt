-- Rows and tables computed item by item from another row or table.
use Rattle.std.specs.Prelude.{ℕ, ◌≡◌, List, map, Some}
use Rattle.v_frame.specs.Prelude.{Table, pixel_at}

-- `converted change xs` applies `change` to each item of `xs`. Applied twice, it converts the
-- pixels of a table. The result may have another type of pixels.
abbrev pub converted : {X Y : Type 0} → (X → Y) → List X → List Y
converted change xs = map change xs

module _ {S T : Type 0} where
  -- For each pixel `p` of `source`, `target` has a pixel `q` at the same position for which
  -- `gives p q` holds.
  abbrev pub GivesPixels : (S → T → Type 0) → Table S → Table T → Type 0
  GivesPixels gives source target =
      (x y : ℕ) (p : S) → pixel_at source x y ≡ Some p
      → (q : T) × gives p q × (pixel_at target x y ≡ Some q)
