-- The blocks processed so far are filled, and the others are unchanged.
use Rattle.std.proofs.Common.{ℕ, ◌≡◌, ◌+◌, ◌*◌, ◌<◌, ◌≤◌, Some, length, slice_get}
use Rattle.v_frame_ops.proofs.border.fill_blocks.Given as goal

abbrev pub invariant-loop-block : goal.invariant-loop-block
invariant-loop-block g l = record {
  wide : length l.row ≡ length l.fn.row;
  before : (x : ℕ) → x < l.start → slice_get l.row x ≡ slice_get l.fn.row x;
  inside : (x : ℕ) → l.start ≤ x → x < l.start + 16 * l.block → slice_get l.row x ≡ Some l.pixel;
  behind : (x : ℕ) → l.start + 16 * l.block ≤ x → slice_get l.row x ≡ slice_get l.fn.row x;
}
