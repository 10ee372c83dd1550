-- The texts found so far, followed by those in the remaining parameters, are all texts.
use Rattle.std.proofs.Common.{◌≡◌, ◌++◌, ◌∷◌, drop}
use Rattle.std.specs.Prelude.{map}
use Rattle.v_frame_y4m.specs.Ascii.{extension_letter}
use Rattle.v_frame_y4m.specs.Header.{of_letter, texts_of}
use Rattle.v_frame_y4m.proofs.parameters.extensions.Given as goal

abbrev pub invariant-loop-parameter : goal.invariant-loop-parameter
invariant-loop-parameter l =
    of_letter extension_letter (texts_of l.parameters)
    ≡ map (λ text. extension_letter ∷ text) l.texts.items ++ of_letter extension_letter
    (texts_of (drop l.parameter-index l.parameters))
