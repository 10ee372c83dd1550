-- The rows processed so far are halved source rows, and everything else is unchanged.
use Rattle.std.proofs.Common.{ℕ, ◌≡◌, ◌+◌, ◌*◌, ◌<◌, List, Some, slice_get}
use Rattle.v_frame.specs.Prelude.{halved, strided_rows, KeepsRest}
use Rattle.v_frame_ops.proofs.rows.change.downscale.Given as goal

abbrev pub invariant-loop-y : goal.invariant-loop-y
invariant-loop-y g l = record {
  halves : (k : ℕ) → k < l.y → (top bottom : List g.row.T.Denot) → slice_get l.source (2 * k) ≡ Some top →
      slice_get l.source (2 * k + 1) ≡ Some bottom
      → slice_get (strided_rows l.width l.height l.stride l.buffer) k ≡ Some (halved g.T.Pixel.form top bottom);
  rest : KeepsRest l.width l.height l.stride l.initial.buffer l.buffer;
}
