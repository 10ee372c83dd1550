-- What was added, and after it what is to be added, is all.
use Rattle.std.proofs.Common.{◌≡◌, ◌++◌, ◌∷◌, drop}
use Rattle.std.specs.Prelude.{map}
use Rattle.v_frame_y4m.specs.Ascii.{extension_letter}
use Rattle.v_frame_y4m.specs.Header.{spelled}
use Rattle.v_frame_y4m_c.proofs.extensions.spelled.Given as goal

abbrev pub invariant-loop-extension : goal.invariant-loop-extension
invariant-loop-extension l =
    spelled (map (λ extension. extension_letter ∷ extension) l.extensions)
    ≡ l.text.items
    ++ spelled (map (λ extension. extension_letter ∷ extension) (drop l.extension-index l.extensions))
