-- At each of the nine positions, a position outside the picture has the value of the nearest pixel.
use Rattle.std.proofs.Common.{ℕ, ◌≡◌, ◌+◌, ◌-◌, ◌<◌, Option, Some, ◌∙◌, ap, arith}
use Rattle.v_frame.specs.Prelude.{pixel_at, table_of, whole_rows, width_of, height_of}
use Rattle.v_frame_ops.specs.Prelude.{nearest}
use Rattle.example_callers.specs.Filters.{mean_of_nine}
use Rattle.example_callers.proofs.filters.box_blur.Goals as goal

same_means : (f g : ℕ → ℕ → Option ℕ) (x y : ℕ) → ((i j : ℕ) → i < x + 3 → j < y + 3 → f i j ≡ g i j) → mean_of_nine f
    x y ≡ mean_of_nine g x y
same_means f g x y same = grind (arith, same)

pub returns-clause-blurred : goal.returns-clause-blurred
returns-clause-blurred c = λ x y across down.
    let plane = c.args.source.now in let g = plane.geometry in let rows = table_of plane in let around =
    c.one_pixel_around-around in
    let held = c.rectangles_hold_pixels.ensures (whole_rows plane) (g.pad_left - 1) (g.pad_top - 1) (g.width + 2)
    (g.height + 2) in
    let near : (i j : ℕ) → i < g.width + 2 → j < g.height + 2
    → pixel_at (table_of around.result) i j ≡ pixel_at rows (nearest 1 (width_of rows) i)
    (nearest 1 (height_of rows) j) = λ i j wide high.
    let left = g.pad_left - 1 + i in let top = g.pad_top - 1 + j in
    let shown = ap (λ t. pixel_at t i j) around.ensures.table ∙ held i j (omega arith) (omega arith) in
    let padded = c.requires.padded left top (omega arith) (omega arith) in
    let column : nearest g.pad_left g.width left ≡ nearest 1 (width_of rows) i = omega arith in
    let row : nearest g.pad_top g.height top ≡ nearest 1 (height_of rows) j = omega arith in
    cc in
    c.blur_inside.ensures.blurred x y across down ∙ ap Some
    (same_means _ _ x y (λ i j wide high. near i j (omega arith) (omega arith)))
