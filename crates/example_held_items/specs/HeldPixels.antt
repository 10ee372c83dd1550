-- Pixels that are written at both ends of a picture.
use Rattle.std.specs.Prelude.{ℕ, ◌≡◌, ◌-◌, List, [], ◌∷◌, ◌++◌, length, take, drop, refl}

-- The pixels with the first one and the last two replaced.
abbrev pub with_ends : {T : Type 0} → T → T → T → List T → List T
with_ends first before_last last pixels =
    first ∷ take (length pixels - 3) (drop 1 pixels) ++ before_last ∷ last ∷ []

-- Of five pixels, the second and the third are unchanged.
worked_ends : with_ends {T = ℕ} 6 7 8 (1 ∷ 2 ∷ 3 ∷ 4 ∷ 5 ∷ []) ≡ 6 ∷ 2 ∷ 3 ∷ 7 ∷ 8 ∷ []
worked_ends = refl
