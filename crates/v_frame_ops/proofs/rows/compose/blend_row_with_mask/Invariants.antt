-- The pixels processed so far are blended, and the others are unchanged.
use Rattle.std.proofs.Common.{ℕ, ◌≡◌, Some, slice_get}
use Rattle.v_frame_ops.specs.Compose.{blended}
use Rattle.v_frame_ops.proofs.Changed.{ChangedBelow}
use Rattle.v_frame_ops.proofs.rows.compose.blend_row_with_mask.Given as goal

abbrev pub invariant-loop-x : goal.invariant-loop-x
invariant-loop-x g l = ChangedBelow (λ k p r. (q : g.row.T.Denot) (weight : ℕ) → slice_get l.source k ≡ Some q
    → slice_get l.mask k ≡ Some weight → r ≡ blended g.T.Pixel.form 255 weight p q) l.fn.row l.row l.x
