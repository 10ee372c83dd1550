-- The texts of arguments, up to the index of a loop.
use Rattle.std.proofs.Common.{ℕ, ◌≡◌, ◌+◌, ◌<◌, List, [], ◌∷◌, ◌++◌, length, get_or, take, drop, sym, ◌∙◌, ap}
use Rattle.std.proofs.Common.{append_assoc, arith, false, refl, subst, true, ◌≤◌}
use Rattle.std.proofs.lemmas.List.{drop-drop, drop-map, map-append, map_more, take-append-drop}
use denote.Ref.{Bor}
use Rattle.std.specs.List.{position_or_len}
use Rattle.std.proofs.lemmas.List.{get_or-map, length-map}
use Rattle.std.proofs.lemmas.List.Sums.{position_or_len_is}
use Rattle.yuv_words.specs.Words.{is_end, texts_of}

pub texts_more : (xs : List (Bor (List ℕ))) (i : ℕ) (d : Bor (List ℕ)) → i < length xs
    → texts_of (take (i + 1) xs) ≡ texts_of (take i xs) ++ (get_or xs i d).now ∷ []
texts_more xs i d within = map_more (λ (x : Bor (List ℕ)). x.now) xs i d within

pub texts_split : (xs : List (Bor (List ℕ))) (i : ℕ) (d : Bor (List ℕ)) → i < length xs
    → texts_of xs ≡ texts_of (take i xs) ++ (get_or xs i d).now ∷ texts_of (drop (i + 1) xs)
texts_split xs i d within =
    ap texts_of (sym (take-append-drop (i + 1) xs))
    ∙ map-append (λ (x : Bor (List ℕ)). x.now) (take (i + 1) xs) (drop (i + 1) xs)
    ∙ ap (λ ys. ys ++ texts_of (drop (i + 1) xs)) (texts_more xs i d within)
    ∙ append_assoc (texts_of (take i xs)) ((get_or xs i d).now ∷ []) (texts_of (drop (i + 1) xs))

pub texts_after : (xs : List (Bor (List ℕ))) (i : ℕ) → texts_of (drop 1 (drop i xs)) ≡ drop (i + 1) (texts_of xs)
texts_after xs i = ap texts_of (drop-drop 1 i xs) ∙ sym (drop-map (λ (x : Bor (List ℕ)). x.now) (i + 1) xs)

pub text_at : (xs : List (Bor (List ℕ))) (i : ℕ) (d : Bor (List ℕ)) → i < length xs → get_or (texts_of xs) i [] ≡ (get_or xs i d).now
text_at xs i d within = get_or-map (λ (x : Bor (List ℕ)). x.now) xs i d [] within

texts_long : (xs : List (Bor (List ℕ))) → length (texts_of xs) ≡ length xs
texts_long xs = length-map xs (λ (x : Bor (List ℕ)). x.now)

-- No argument before index `i` is `--`.
abbrev pub NoEnd : List (Bor (List ℕ)) → ℕ → Type 0
NoEnd xs i = (k : ℕ) → k < i → is_end (get_or (texts_of xs) k []) ≡ false

pub end_here : (xs : List (Bor (List ℕ))) (i : ℕ) (d : Bor (List ℕ)) → i < length xs → is_end (get_or xs i d).now ≡ false
    → is_end (get_or (texts_of xs) i []) ≡ false
end_here xs i d within is = ap is_end (text_at xs i d within) ∙ is

pub end_found : (xs : List (Bor (List ℕ))) (i : ℕ) (d : Bor (List ℕ)) → i < length xs → NoEnd xs i
    → is_end (get_or xs i d).now ≡ true → i ≡ position_or_len is_end (texts_of xs)
end_found xs i d within before is =
    sym (position_or_len_is is_end (texts_of xs) i [] (subst (λ (n : ℕ). i ≤ n) (sym (texts_long xs)) (omega (arith, within)))
    before (λ _. ap is_end (text_at xs i d within) ∙ is))

pub end_missing : (xs : List (Bor (List ℕ))) (i : ℕ) → i ≡ length xs → NoEnd xs i
    → length xs ≡ position_or_len is_end (texts_of xs)
end_missing xs i all before =
    sym (position_or_len_is is_end (texts_of xs) (length xs) [] (subst (λ (n : ℕ). length xs ≤ n) (sym (texts_long xs)) (omega arith))
    (subst (NoEnd xs) all before) (λ within. absurd (omega (arith, within, texts_long xs))))

pub texts_first : (xs : List (Bor (List ℕ))) (d : Bor (List ℕ)) → 1 ≤ length xs
    → texts_of xs ≡ (get_or xs 0 d).now ∷ texts_of (drop 1 xs)
texts_first [] d some = absurd (omega (arith, some))
texts_first (x ∷ xs) d some = refl

pub texts_second : (xs : List (Bor (List ℕ))) (d : Bor (List ℕ)) → 2 ≤ length xs
    → texts_of xs ≡ (get_or xs 0 d).now ∷ (get_or xs 1 d).now ∷ texts_of (drop 2 xs)
texts_second [] d some = absurd (omega (arith, some))
texts_second (x ∷ []) d some = absurd (omega (arith, some))
texts_second (x ∷ y ∷ xs) d some = refl
