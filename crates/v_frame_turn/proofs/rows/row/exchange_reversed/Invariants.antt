-- The pixels processed so far are the pixels of the other row, with the second row counted from its right end. The
-- others are unchanged.
use Rattle.std.proofs.Common.{ℕ, ◌≡◌, ◌+◌, ◌-◌, ◌<◌, ◌≤◌, slice_get}
use Rattle.v_frame_turn.proofs.rows.row.exchange_reversed.Given as goal

abbrev pub invariant-loop-x : goal.invariant-loop-x
invariant-loop-x g l = record {
  first : (k : ℕ) → k < l.x → slice_get l.a k ≡ slice_get l.initial.b (l.width - 1 - k);
  second : (k : ℕ) → k < l.width → l.width ≤ k + l.x → slice_get l.b k ≡ slice_get l.initial.a (l.width - 1 - k);
  rest : (k : ℕ) → l.x ≤ k → slice_get l.a k ≡ slice_get l.initial.a k;
  other_rest : (k : ℕ) → k + l.x < l.width → slice_get l.b k ≡ slice_get l.initial.b k;
}
