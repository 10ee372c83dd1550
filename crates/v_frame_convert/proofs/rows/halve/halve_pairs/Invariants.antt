-- The pixels processed so far are the expected means.
use Rattle.std.proofs.Common.{ℕ, ◌≡◌, ◌<◌, Some, slice_get}
use Rattle.v_frame_convert.specs.ScaledRows.{mean_in_two_rows}
use Rattle.v_frame_convert.specs.declared.scale.Scale.TheVariants.{Half}
use Rattle.v_frame_convert.proofs.rows.halve.halve_pairs.Given as goal

abbrev pub invariant-loop-x : goal.invariant-loop-x
invariant-loop-x g l = (k : ℕ) → k < l.x
    → slice_get l.row k ≡ Some (g.T.Pixel.form.pixel_of (mean_in_two_rows g.T.Pixel.form Half l.source l.source k))

abbrev pub invariant-loop-x-2 : goal.invariant-loop-x-2
invariant-loop-x-2 g l = (k : ℕ) → k < l.x
    → slice_get l.row k ≡ Some (g.T.Pixel.form.pixel_of (mean_in_two_rows g.T.Pixel.form Half l.source l.source k))
