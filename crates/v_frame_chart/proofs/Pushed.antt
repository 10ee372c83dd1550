-- A list that is composed item by item, with one more item.
use Rattle.std.proofs.Common.{ℕ, ◌≡◌, ◌+◌, ◌++◌, List, [], ◌∷◌, map, ap, sym, ◌∙◌, arith}
use Rattle.std.specs.List.{range_with_len}
use Rattle.std.proofs.lemmas.List.FromFn.{map-range_with_len_more}

pub pushed : {X : Type 0} (at : ℕ → X) (n : ℕ) (old new : List X) (x : X) → new ≡ old ++ x ∷ []
    → old ≡ map at (range_with_len 0 n) → x ≡ at n → new ≡ map at (range_with_len 0 (n + 1))
pushed at n old new x more so_far is =
    more ∙ ap (λ xs. xs ++ x ∷ []) so_far ∙ ap (λ y. map at (range_with_len 0 n) ++ y ∷ []) is
    ∙ sym (map-range_with_len_more at 0 n n (omega arith))
