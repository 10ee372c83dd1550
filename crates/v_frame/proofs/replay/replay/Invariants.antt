-- The results and the tables are those of the calls so far, and the memory for the other results is allocated.
use Rattle.std.proofs.Common.{◌≡◌, ℕ, ◌≤◌, length, take, vec_len, vec_capacity}
use Rattle.v_frame.specs.Frame.{tables_of, plane_at, KeepsBorders}
use Rattle.v_frame.specs.Replay.{WritesPlane, answers_to, tables_after}
use Rattle.v_frame.proofs.replay.replay.Given as goal

abbrev pub invariant-loop-call : goal.invariant-loop-call
invariant-loop-call g l = record {
  answers : l.done.items ≡ answers_to g.T.Pixel.form (take l.call-index l.calls) (tables_of l.fn.frame);
  tables : tables_of l.frame ≡ tables_after g.T.Pixel.form (take l.call-index l.calls) (tables_of l.fn.frame);
  border : KeepsBorders l.fn.frame l.frame;
  unwritten : (index : ℕ) → (WritesPlane (take l.call-index l.calls) index → ⊥) → plane_at l.frame index ≡ plane_at
      l.fn.frame index;
  done : vec_len l.done ≡ l.call-index;
  room : length l.calls ≤ vec_capacity l.done;
}
