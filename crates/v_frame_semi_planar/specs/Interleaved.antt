-- Interleaved rows of two chroma components.
use Rattle.std.specs.Prelude.{List, [], ◌∷◌}

-- The items of two lists, alternately. With `combined`, the interleaved rows of two tables.
abbrev pub interleaved : {X : Type 0} → List X → List X → List X
interleaved (u ∷ us) (v ∷ vs) = u ∷ v ∷ interleaved us vs
interleaved us vs = []
