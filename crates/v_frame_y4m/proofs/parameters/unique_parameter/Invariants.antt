-- The parameter found so far, followed by those among the remaining ones, are all with this letter.
use Rattle.std.proofs.Common.{◌≡◌, ◌++◌, ◌∷◌, drop}
use Rattle.std.specs.Prelude.{IfSome}
use Rattle.v_frame_y4m.specs.Header.{of_letter, parameter_of, texts_of}
use Rattle.v_frame_y4m.proofs.parameters.unique_parameter.Given as goal

abbrev pub invariant-loop-parameter : goal.invariant-loop-parameter
invariant-loop-parameter l =
    (of_letter l.letter (texts_of l.parameters)
    ≡ parameter_of l.letter (λ p. p.1.now) l.found ++ of_letter l.letter
    (texts_of (drop l.parameter-index l.parameters)))
    × IfSome l.found (λ p. p.0.now ≡ l.letter ∷ p.1.now)
