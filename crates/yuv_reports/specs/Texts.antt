-- Parts of texts. Contracts do not describe how a float is written, so they state the part of a
-- text after its last float.
use Rattle.std.specs.Prelude.{ℕ, ◌≡◌, ◌++◌, List}

-- The text `text` begins with `first`, or ends with `last`.
abbrev pub BeginsWith : List ℕ → List ℕ → Type 0
BeginsWith first text = (rest : List ℕ) × (text ≡ first ++ rest)

abbrev pub EndsWith : List ℕ → List ℕ → Type 0
EndsWith last text = (front : List ℕ) × (text ≡ front ++ last)
