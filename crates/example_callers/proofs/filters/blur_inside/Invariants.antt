-- The rows so far are means, and the border is unchanged.
use Rattle.std.proofs.Common.{ℕ, ◌≡◌, ◌<◌, Some}
use Rattle.v_frame.specs.Prelude.{KeepsBorder, pixel_at, table_of}
use Rattle.example_callers.specs.Filters.{mean_of_nine}
use Rattle.example_callers.proofs.filters.blur_inside.Given as goal

abbrev pub invariant-loop-y : goal.invariant-loop-y
invariant-loop-y l = record {
  blurred : (x k : ℕ) → x < l.fn.target.geometry.width → k < l.y → pixel_at (table_of l.target) x k ≡ Some
      (mean_of_nine (pixel_at (table_of l.source)) x k);
  border : KeepsBorder l.fn.target l.target;
}
