-- The sums processed so far are written, and the entries before them are unchanged.
use Rattle.std.proofs.Common.{ℕ, ◌≡◌, ◌+◌, ◌*◌, ◌<◌, length}
use Rattle.std.specs.Prelude.{slice_index}
use Rattle.v_frame_measures.specs.ColumnSums.{four_of}
use Rattle.v_frame_measures.proofs.similarity.columns.put_sums_of_fours.Given as goal

abbrev pub invariant-loop-j : goal.invariant-loop-j
invariant-loop-j l = record {
  long : length l.sums ≡ 128;
  made : (i : ℕ) → i < l.j → slice_index l.sums (l.k + i) ≡ four_of l.numbers (4 * i);
  kept : (i : ℕ) → i < l.k → slice_index l.sums i ≡ slice_index l.initial.sums i;
}
