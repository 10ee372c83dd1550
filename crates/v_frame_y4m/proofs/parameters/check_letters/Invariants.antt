-- A property of the remaining parameters is a property of all.
use Rattle.std.proofs.Common.{drop}
use Rattle.std.specs.Prelude.{All, Contains, slice_index}
use Rattle.v_frame_y4m.specs.Header.{letters, texts_of}
use Rattle.v_frame_y4m.proofs.parameters.check_letters.Given as goal

abbrev pub invariant-loop-parameter : goal.invariant-loop-parameter
invariant-loop-parameter l = All (λ p. Contains letters (slice_index p 0))
    (texts_of (drop l.parameter-index l.parameters))
    → All (λ p. Contains letters (slice_index p 0)) (texts_of l.parameters)
