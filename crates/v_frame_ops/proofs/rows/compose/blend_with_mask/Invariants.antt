-- The rows processed so far are blended, and everything else is unchanged.
use Rattle.std.proofs.Common.{ℕ, ◌≡◌, List, Some, slice_get}
use Rattle.v_frame.specs.Prelude.{strided_rows, KeepsRest}
use Rattle.v_frame_ops.specs.Compose.{BlendsByMask}
use Rattle.v_frame_ops.proofs.Changed.{ChangedBelow}
use Rattle.v_frame_ops.proofs.rows.compose.blend_with_mask.Given as goal

abbrev pub invariant-loop-y : goal.invariant-loop-y
invariant-loop-y g l = record {
  rows : ChangedBelow (λ k old new. (beside : List g.row.T.Denot) (weights : List ℕ) → slice_get l.source k ≡ Some beside
      → slice_get l.mask k ≡ Some weights → BlendsByMask g.T.Pixel.form old beside weights new)
      (strided_rows l.width l.height l.stride l.initial.buffer)
      (strided_rows l.width l.height l.stride l.buffer) l.y;
  rest : KeepsRest l.width l.height l.stride l.initial.buffer l.buffer;
}
