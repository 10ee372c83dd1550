-- The first argument of a token determines the token, so arguments are tokens in only one way.
use Rattle.std.proofs.Common.{ℕ, ◌≡◌, ◌≢◌, ◌<◌, true, false, List, [], ◌∷◌, ◌++◌, length, get_or, drop}
use Rattle.std.proofs.Common.{refl, sym, ◌∙◌, ap, subst, append_assoc, rules, inl, inr}
use Rattle.std.specs.Cmp.Lexicographic.{bytes_decides}
use Rattle.std.specs.Prelude.{All}
use Rattle.std.specs.Str.{bytes_eq}
use Rattle.std.proofs.lemmas.List.Elements.{All-head, All-tail}
use Rattle.yuv_words.specs.Faults.{Names}
use Rattle.yuv_words.specs.Names.{option_text, takes_value}
use Rattle.yuv_words.specs.Words.{joined_text, spelled, token_words, Apart, File, Flag, IsFileWord, IsToken, Joined}
use Rattle.yuv_words.specs.Words.{Token}
use Rattle.yuv_words.specs.declared.option_name.OptionName.{OptionName}
use Rattle.yuv_words.proofs.Cuts.{cut_same, inside, lacks_from, marked, plain, tails, Lacks}
use Rattle.yuv_words.proofs.Places.{each_option, one_option}

pub text_dashed : (n : OptionName) → option_text n ≡ 45 ∷ 45 ∷ drop 2 (option_text n)
text_dashed n = (bytes_decides _ _).0
    (each_option (λ m. bytes_eq (option_text m) (45 ∷ 45 ∷ drop 2 (option_text m))) refl n)

pub text_lacks : (n : OptionName) → Lacks 61 (option_text n)
text_lacks n = lacks_from 61 (option_text n) (each_option (λ m. plain 61 (option_text m)) refl n)

pub alone_or_joined : (n m : OptionName) (value : List ℕ) → option_text n ≢ joined_text m value
alone_or_joined n m value is = text_lacks n (length (option_text m))
    (subst (λ (w : List ℕ). length (option_text m) < length w) (sym is) (inside (option_text m) value 61))
    (ap (λ (w : List ℕ). get_or w (length (option_text m)) 0) is ∙ marked (option_text m) value 61)

pub joined_once : (n m : OptionName) (value other : List ℕ) → joined_text n value ≡ joined_text m other
    → (n ≡ m) × (value ≡ other)
joined_once n m value other is =
    let cut = cut_same 61 (option_text n) (option_text m) value other (text_lacks n) (text_lacks m) is in
    (one_option n m cut.0, cut.1)

dashed_no_file : (word rest : List ℕ) → word ≡ 45 ∷ 45 ∷ rest → IsFileWord word → ⊥
dashed_no_file word rest is (inl other) = other (ap (λ (w : List ℕ). get_or w 0 0) is)
dashed_no_file word rest is (inr lone) = search (rules, ap (λ (w : List ℕ). length w) (sym is ∙ lone))

pub option_no_file : (n : OptionName) (word : List ℕ) → Names word n → IsFileWord word → ⊥
option_no_file n word (inl is) file = dashed_no_file word _ (is ∙ text_dashed n) file
option_no_file n word (inr joined) file =
    dashed_no_file word _ (joined.1 ∙ ap (λ (t : List ℕ). t ++ 61 ∷ joined.0) (text_dashed n)) file

-- An argument names at most one option.
pub names_once : (n m : OptionName) (word : List ℕ) → Names word n → Names word m → n ≡ m
names_once n m word (inl one) (inl other) = one_option n m (sym one ∙ other)
names_once n m word (inl one) (inr other) = absurd (alone_or_joined n m other.0 (sym one ∙ other.1))
names_once n m word (inr one) (inl other) = absurd (alone_or_joined m n one.0 (sym other ∙ one.1))
names_once n m word (inr one) (inr other) = (joined_once n m one.0 other.0 (sym one.1 ∙ other.1)).0

pub head_of : {A : Type 0} (x y : A) (xs ys : List A) → x ∷ xs ≡ y ∷ ys → x ≡ y
head_of x y xs ys is = ap (λ zs. get_or zs 0 x) is

clash : (n m : OptionName) → n ≡ m → takes_value n ≡ false → takes_value m ≡ true → ⊥
clash n m is lacks takes = search (rules, sym lacks ∙ ap takes_value is ∙ takes)

-- Two tokens that begin the same arguments are equal.
pub one_head : (t u : Token) (xs ys : List (List ℕ)) → IsToken t → IsToken u
    → token_words t ++ xs ≡ token_words u ++ ys → (t ≡ u) × (xs ≡ ys)
one_head (File a) (File b) xs ys one other is = (ap File (head_of a b xs ys is), tails a b xs ys is)
one_head (File a) (Flag m) xs ys one other is = absurd (option_no_file m a (inl (head_of a _ xs ys is)) one)
one_head (File a) (Apart m v) xs ys one other is = absurd (option_no_file m a (inl (head_of a _ xs (v ∷ ys) is)) one)
one_head (File a) (Joined m v) xs ys one other is = absurd (option_no_file m a (inr (v, head_of a _ xs ys is)) one)
one_head (Flag n) (File b) xs ys one other is = absurd (option_no_file n b (inl (sym (head_of _ b xs ys is))) other)
one_head (Flag n) (Flag m) xs ys one other is =
    (ap Flag (one_option n m (head_of _ _ xs ys is)), tails _ _ xs ys is)
one_head (Flag n) (Apart m v) xs ys one other is =
    absurd (clash n m (one_option n m (head_of _ _ xs (v ∷ ys) is)) one other)
one_head (Flag n) (Joined m v) xs ys one other is = absurd (alone_or_joined n m v (head_of _ _ xs ys is))
one_head (Apart n v) (File b) xs ys one other is =
    absurd (option_no_file n b (inl (sym (head_of _ b (v ∷ xs) ys is))) other)
one_head (Apart n v) (Flag m) xs ys one other is =
    absurd (clash m n (one_option m n (sym (head_of _ _ (v ∷ xs) ys is))) other one)
one_head (Apart n v) (Apart m u) xs ys one other is =
    let option = one_option n m (head_of _ _ (v ∷ xs) (u ∷ ys) is) in
    let rest : v ∷ xs ≡ u ∷ ys = tails _ _ (v ∷ xs) (u ∷ ys) is in
    (ap (λ k. Apart k v) option ∙ ap (Apart m) (head_of v u xs ys rest), tails v u xs ys rest)
one_head (Apart n v) (Joined m u) xs ys one other is = absurd (alone_or_joined n m u (head_of _ _ (v ∷ xs) ys is))
one_head (Joined n v) (File b) xs ys one other is = absurd (option_no_file n b (inr (v, sym (head_of _ b xs ys is))) other)
one_head (Joined n v) (Flag m) xs ys one other is = absurd (alone_or_joined m n v (sym (head_of _ _ xs ys is)))
one_head (Joined n v) (Apart m u) xs ys one other is = absurd (alone_or_joined m n v (sym (head_of _ _ xs (u ∷ ys) is)))
one_head (Joined n v) (Joined m u) xs ys one other is =
    let both = joined_once n m v u (head_of _ _ xs ys is) in
    (ap (λ k. Joined k v) both.0 ∙ ap (Joined m) both.1, tails _ _ xs ys is)

nothing : {A : Type 0} (x : A) (xs : List A) → [] ≡ x ∷ xs → ⊥
nothing x xs is = search rules

pub no_first : (t : Token) (xs : List (List ℕ)) → [] ≡ token_words t ++ xs → ⊥
no_first (File a) xs is = nothing a xs is
no_first (Flag n) xs is = nothing _ xs is
no_first (Apart n v) xs is = nothing _ (v ∷ xs) is
no_first (Joined n v) xs is = nothing _ xs is

-- The tokens that follow the tokens with which the arguments begin.
pub record Behind (tokens begun : List Token) (rest : List (List ℕ)) : Type 0 where
  pub more : List Token
  pub joined : tokens ≡ begun ++ more
  pub are : All IsToken more
  pub front : spelled more ≡ rest

pub go_on : (tokens begun : List Token) (rest : List (List ℕ)) → All IsToken tokens → All IsToken begun
    → spelled tokens ≡ spelled begun ++ rest → Behind tokens begun rest
go_on tokens [] rest are begin is = record { more = tokens; joined = refl; are = are; front = is }
go_on [] (t ∷ begun) rest are begin is =
    absurd (no_first t (spelled begun ++ rest) (is ∙ append_assoc (token_words t) (spelled begun) rest))
go_on (u ∷ tokens) (t ∷ begun) rest are begin is =
    let both = one_head u t (spelled tokens) (spelled begun ++ rest) (All-head IsToken u tokens are)
    (All-head IsToken t begun begin) (is ∙ append_assoc (token_words t) (spelled begun) rest) in
    let more = go_on tokens begun rest (All-tail IsToken u tokens are) (All-tail IsToken t begun begin) both.1 in
    record {
      more = more.more;
      joined = ap (λ x. x ∷ tokens) both.0 ∙ ap (λ xs. t ∷ xs) more.joined;
      are = more.are;
      front = more.front;
    }
