-- A text that is composed part by part, with one more part.
use Rattle.std.proofs.Common.{ℕ, ◌≡◌, ◌+◌, ◌++◌, List, [], ◌∷◌, map, ap, sym, ◌∙◌, arith, flat_map, append_assoc, length, suc, add-zero, get_or, take, ◌<◌, length-take}
use Rattle.std.specs.List.{enumerate_from, fold, range_with_len}
use Rattle.std.specs.Prelude.{◌||◌, Bool, false}
use Rattle.std.proofs.lemmas.List.{flat_map_more, map-id, take_more}
use Rattle.std.proofs.lemmas.List.Sums.{fold_more}
use Rattle.v_frame_chart.specs.declared.drawing.Series.{Series}
use Rattle.std.proofs.lemmas.List.FromFn.{map-range_with_len_more}

pub range_more : (n : ℕ) → range_with_len 0 (n + 1) ≡ range_with_len 0 n ++ n ∷ []
range_more n =
    sym (map-id (range_with_len 0 (n + 1))) ∙ map-range_with_len_more (λ k. k) 0 n n (omega arith)
    ∙ ap (λ (ks : List ℕ). ks ++ n ∷ []) (map-id (range_with_len 0 n))

pub appended : (part : ℕ → List ℕ) (n : ℕ) (first old new : List ℕ) → new ≡ old ++ part n
    → old ≡ first ++ flat_map part (range_with_len 0 n)
    → new ≡ first ++ flat_map part (range_with_len 0 (n + 1))
appended part n first old new more so_far =
    more ∙ ap (λ (text : List ℕ). text ++ part n) so_far ∙ flat_map_more part first (range_with_len 0 n) n
    ∙ ap (λ (ks : List ℕ). first ++ flat_map part ks) (sym (range_more n))

pub marked_more : (part : ℕ → List ℕ) (at : ℕ → ℕ) (n : ℕ) (first old new : List ℕ) → new ≡ old ++ part (at n)
    → old ≡ first ++ flat_map part (map at (range_with_len 0 n))
    → new ≡ first ++ flat_map part (map at (range_with_len 0 (n + 1)))
marked_more part at n first old new more so_far =
    more ∙ ap (λ (text : List ℕ). text ++ part (at n)) so_far
    ∙ flat_map_more part first (map at (range_with_len 0 n)) (at n)
    ∙ ap (λ (ks : List ℕ). first ++ flat_map part ks) (sym (map-range_with_len_more at 0 n n (omega arith)))

-- Two, three and four parts that follow one another.
pub joined : (text one two a b : List ℕ) → one ≡ text ++ a → two ≡ one ++ b → two ≡ text ++ (a ++ b)
joined text one two a b first second =
    second ∙ ap (λ (t : List ℕ). t ++ b) first ∙ append_assoc text a b

pub joined3 : (text one two three a b c : List ℕ) → one ≡ text ++ a → two ≡ one ++ b → three ≡ two ++ c
    → three ≡ text ++ (a ++ (b ++ c))
joined3 text one two three a b c first second third =
    joined text one three a (b ++ c) first (joined one two three b c second third)

pub joined4 : (text one two three four a b c d : List ℕ) → one ≡ text ++ a → two ≡ one ++ b → three ≡ two ++ c
    → four ≡ three ++ d → four ≡ text ++ (a ++ (b ++ (c ++ d)))
joined4 text one two three four a b c d first second third fourth =
    joined text one four a (b ++ (c ++ d)) first (joined3 one two three four b c d second third fourth)

-- One more item, with its index.
pub enumerate_more : {X : Type 0} (n : ℕ) (xs : List X) (x : X)
    → enumerate_from n (xs ++ x ∷ []) ≡ enumerate_from n xs ++ (n + length xs, x) ∷ []
enumerate_more {X} n [] x = rw add-zero
enumerate_more {X} n (y ∷ ys) x =
    let same : n + 1 + length ys ≡ n + suc (length ys) = omega arith in
    ap (λ (rest : List (ℕ × X)). (n, y) ∷ rest) (enumerate_more (n + 1) ys x
    ∙ ap (λ (k : ℕ). enumerate_from (n + 1) ys ++ (k, x) ∷ []) same)

pub entries_more : {X : Type 0} (part : ℕ × X → List ℕ) (xs : List X) (k : ℕ) (d : X) (first old new : List ℕ)
    → k < length xs → new ≡ old ++ part (k, get_or xs k d)
    → old ≡ first ++ flat_map part (enumerate_from 0 (take k xs))
    → new ≡ first ++ flat_map part (enumerate_from 0 (take (k + 1) xs))
entries_more {X} part xs k d first old new within more so_far =
    let x = get_or xs k d in
    let at : 0 + length (take k xs) ≡ k = omega (arith, length-take k xs) in
    let one_more : enumerate_from 0 (take (k + 1) xs) ≡ enumerate_from 0 (take k xs) ++ (k, x) ∷ [] =
    ap (enumerate_from 0) (take_more xs k d within) ∙ enumerate_more 0 (take k xs) x
    ∙ ap (λ (n : ℕ). enumerate_from 0 (take k xs) ++ (n, x) ∷ []) at in
    more ∙ ap (λ (text : List ℕ). text ++ part (k, x)) so_far
    ∙ flat_map_more part first (enumerate_from 0 (take k xs)) (k, x)
    ∙ ap (λ (entries : List (ℕ × X)). first ++ flat_map part entries) (sym one_more)

-- Whether one of the items passes a test, with one more item.
pub any_more : {X : Type 0} (test : X → Bool) (xs : List X) (i : ℕ) (d : X) (old new passes : Bool) → i < length xs
    → new ≡ (old || passes) → old ≡ fold (λ found x. found || test x) false (take i xs) → passes ≡ test (get_or xs i d)
    → new ≡ fold (λ found x. found || test x) false (take (i + 1) xs)
any_more test xs i d old new passes within more so_far is =
    more ∙ ap (λ (b : Bool). b || passes) so_far
    ∙ ap (λ (b : Bool). fold (λ found x. found || test x) false (take i xs) || b) is
    ∙ sym (fold_more (λ (found : Bool) x. found || test x) false xs i d within)

pub ruleset joins = (joined3, joined, append_assoc)

-- The value that an index past the end would read.
abbrev pub no_series : Series
no_series = record {
  name = record { ref_ptr = (0, 0); now = [] };
  values = record { ref_ptr = (0, 0); now = [] };
}
