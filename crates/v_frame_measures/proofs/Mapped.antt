-- Functions that are equal at each item of a list.
use Rattle.std.proofs.Common.{◌≡◌, List, [], ◌∷◌, map, refl}
use Rattle.std.specs.Simd.Lanes.{Each1}

pub map_same : {A B : Type 0} (P : A → Type 0) (f g : A → B) (xs : List A) → ((x : A) → P x → f x ≡ g x) → Each1 P xs
    → map f xs ≡ map g xs
map_same P f g [] same each = refl
map_same P f g (x ∷ xs) same each = rw (same x each.0, map_same P f g xs same each.1) refl
