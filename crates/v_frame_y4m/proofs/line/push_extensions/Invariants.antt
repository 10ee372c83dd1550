-- The extensions appended so far, followed by the remaining ones, are all extensions.
use Rattle.std.proofs.Common.{◌≡◌, ◌++◌, ◌∷◌, drop}
use Rattle.std.specs.Prelude.{map}
use Rattle.v_frame_y4m.specs.Ascii.{extension_letter}
use Rattle.v_frame_y4m.specs.Header.{spelled}
use Rattle.v_frame_y4m.proofs.line.push_extensions.Given as goal

abbrev pub invariant-loop-extension : goal.invariant-loop-extension
invariant-loop-extension l =
    l.fn.line.items ++ spelled (map (λ text. extension_letter ∷ text) l.extensions)
    ≡ l.line.items ++ spelled (map (λ text. extension_letter ∷ text) (drop l.extension-index l.extensions))
