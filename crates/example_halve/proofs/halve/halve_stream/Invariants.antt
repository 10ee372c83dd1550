-- The borders are unchanged.
use Rattle.v_frame.specs.Prelude.{KeepsBorders}
use Rattle.example_halve.proofs.halve.halve_stream.Given as goal

abbrev pub invariant-loop : goal.invariant-loop
invariant-loop g l = KeepsBorders l.fn.frame l.frame
