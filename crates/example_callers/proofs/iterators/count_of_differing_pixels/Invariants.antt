-- The count so far plus the count for the remaining pairs is the whole count.
use Rattle.std.proofs.Common.{◌≡◌, ◌+◌, ◌^◌, ◌≤◌, length, not}
use Rattle.std.specs.Prelude.{count_by}
use Rattle.std.specs.List.{zip}
use Rattle.std.specs.Iterator.Adapters.{zip_first, zip_second}
use Rattle.v_frame.specs.Prelude.{table_of, row_major}
use Rattle.example_callers.proofs.iterators.count_of_differing_pixels.Given as goal

abbrev pub invariant-loop-p : goal.invariant-loop-p
invariant-loop-p g l = record {
  so_far : l.count + count_by (λ pair. not (g.T.PartialEq.eq pair.0 pair.1))
      (zip (zip_first l.p-iterator) (zip_second l.p-iterator))
      ≡ count_by (λ pair. not (g.T.PartialEq.eq pair.0 pair.1))
      (zip (row_major (table_of l.a)) (row_major (table_of l.b)));
  bound : l.count + length (zip_first l.p-iterator) ≤ 2 ^ 63;
}
