-- The pixels so far are inverted, and the others are unchanged.
use Rattle.std.proofs.Common.{◌≡◌, ◌-◌, ◌++◌, take, drop}
use Rattle.v_frame_ops.specs.Prelude.{mapped}
use Rattle.example_callers.proofs.filter.invert_row.Given as goal

abbrev pub invariant-loop-pixel : goal.invariant-loop-pixel
invariant-loop-pixel l = l.row ≡ mapped (λ pixel. 255 - pixel) (take l.pixel-index l.fn.row) ++ drop l.pixel-index
    l.fn.row
