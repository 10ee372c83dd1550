-- A pixel of the part is a pixel of the picture.
use Rattle.std.proofs.Common.{ℕ, ◌≡◌, ◌+◌, ◌∙◌, sym, ap, arith}
use Rattle.v_frame.specs.Prelude.{pixel_at, table_of, Table}
use Rattle.example_recipes.proofs.crop.crop.Goals as goal

none_before : (n : ℕ) → 0 + n ≡ n
none_before n = omega arith

at_corner : {T : Type 0} (rows : Table T) (i j : ℕ) → pixel_at rows i j ≡ pixel_at rows (0 + i) (0 + j)
at_corner rows i j = sym (ap (λ k. pixel_at rows k (0 + j)) (none_before i) ∙ ap (pixel_at rows i) (none_before j))

pub returns-clause-part : goal.returns-clause-part
returns-clause-part g c i j wide high =
    let part = c.visible_region-part.ensures in
    let copied = c.copy_region.ensures.inside i j (omega (arith, wide, part.width, c.width.ensures.value))
    (omega (arith, high, part.height, c.height.ensures.value)) in
    at_corner (table_of c.copy_region.new.target) i j ∙ copied ∙ ap (λ rows. pixel_at rows i j) part.table
    ∙ c.rectangles_hold_pixels.ensures (table_of c.args.picture.now) c.args.x c.args.y c.width.result c.height.result i j
    (omega (arith, wide, c.width.ensures.value)) (omega (arith, high, c.height.ensures.value))
