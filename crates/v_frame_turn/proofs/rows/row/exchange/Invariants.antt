-- The pixels processed so far are the pixels of the other row, and the others are unchanged.
use Rattle.std.proofs.Common.{ℕ, ◌≡◌, ◌<◌, ◌≤◌, slice_get}
use Rattle.v_frame_turn.proofs.rows.row.exchange.Given as goal

abbrev pub invariant-loop-x : goal.invariant-loop-x
invariant-loop-x g l = record {
  first : (k : ℕ) → k < l.x → slice_get l.a k ≡ slice_get l.initial.b k;
  second : (k : ℕ) → k < l.x → slice_get l.b k ≡ slice_get l.initial.a k;
  rest : (k : ℕ) → l.x ≤ k → slice_get l.a k ≡ slice_get l.initial.a k;
  other_rest : (k : ℕ) → l.x ≤ k → slice_get l.b k ≡ slice_get l.initial.b k;
}
