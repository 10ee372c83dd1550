-- Arguments with an error request no command.
use Rattle.std.proofs.Common.{ℕ, ◌≡◌, ◌≢◌, ◌<◌, true, false, List, [], ◌∷◌, ◌++◌, length, refl, sym, ◌∙◌, ap}
use Rattle.std.proofs.Common.{subst, arith, eqb, rules, inl, inr, take}
use Rattle.std.proofs.lemmas.Bool.{eqb-true}
use Rattle.std.specs.Prelude.{flat_map, if◌then◌else◌, All}
use Rattle.std.proofs.lemmas.List.{append-nil}
use Rattle.std.proofs.lemmas.List.Concat.{flat_map-append}
use Rattle.std.proofs.lemmas.List.Elements.{All-head}
use Rattle.std.specs.Cmp.Lexicographic.{bytes_decides}
use Rattle.yuv_words.specs.Calls.{IsCall}
use Rattle.yuv_words.specs.Commands.{AreFiles, Says}
use Rattle.yuv_words.specs.Faults.{Begin, HasLateFile, HasWordFault, IsUnknown, Names}
use Rattle.yuv_words.specs.Names.{file_count, option_text, takes_value}
use Rattle.yuv_words.specs.Words.{after_end, before_end, file_in, files_of, is_same, joined_text, spelled, token_words}
use Rattle.yuv_words.specs.Words.{value_in, values_of, Apart, File, Flag, IsFileWord, IsToken, Joined, Token}
use Rattle.yuv_words.specs.declared.command.Command.{Command}
use Rattle.yuv_words.specs.declared.command.Command.TheVariants as command
use Rattle.yuv_words.specs.declared.command.CommandName.{CommandName}
use Rattle.yuv_words.specs.declared.error.UsageError.{UsageError}
use Rattle.yuv_words.specs.declared.error.UsageError.TheVariants as fault
use Rattle.yuv_words.specs.declared.option_name.OptionName.{OptionName}
use Rattle.yuv_words.proofs.Heads.{alone_or_joined, go_on, head_of, joined_once, names_once, no_first, option_no_file, Behind}
use Rattle.yuv_words.proofs.Cuts.{tails}
use Rattle.yuv_words.proofs.Places.{each_command, one_option}

-- A command has exactly the number of files that it takes.
pub as_many : (k : CommandName) (first second third : List ℕ) (files : List (List ℕ))
    → AreFiles k first second third files → length files ≡ file_count k
as_many k first second third files are = ap length are.0
    ∙ eqb-true _ _ (each_command (λ n. eqb (length (take (file_count n) (first ∷ second ∷ third ∷ []))) (file_count n)) refl k)

pub says_count : (given : OptionName → List (List ℕ)) (k : CommandName) (c : Command) (files : List (List ℕ))
    → Says given k c files → length files ≡ file_count k
says_count given k (command.Call c) files says = as_many k _ _ _ files says.1
says_count given k _ files says = absurd says

-- The token is an option `n`.
abbrev pub IsOf : OptionName → Token → Type 0
IsOf n (File a) = ⊥
IsOf n (Flag m) = m ≡ n
IsOf n (Apart m v) = m ≡ n
IsOf n (Joined m v) = m ≡ n

is_itself : (n : OptionName) → is_same n n ≡ true
is_itself n = (bytes_decides (option_text n) (option_text n)).1 refl

-- The token gives a value to that option.
pub gives_value : (n : OptionName) (t : Token) → IsOf n t → (v : List ℕ) × (value_in n t ≡ v ∷ [])
gives_value n (File a) is = absurd is
gives_value n (Flag m) is = (
  [],
  subst (λ k. value_in n (Flag k) ≡ [] ∷ []) (sym is)
      (ap (λ b. if b then [] ∷ [] else []) (is_itself n)),
)
gives_value n (Apart m v) is = (
  v,
  subst (λ k. value_in n (Apart k v) ≡ v ∷ []) (sym is)
      (ap (λ b. if b then v ∷ [] else []) (is_itself n)),
)
gives_value n (Joined m v) is = (
  v,
  subst (λ k. value_in n (Joined k v) ≡ v ∷ []) (sym is)
      (ap (λ b. if b then v ∷ [] else []) (is_itself n)),
)

-- If the first argument of a token names an option, the token is that option.
pub first_named : (n : OptionName) (t : Token) (word : List ℕ) (xs ys : List (List ℕ)) → IsToken t → Names word n
    → token_words t ++ xs ≡ word ∷ ys → IsOf n t
first_named n (File a) word xs ys is names same =
    absurd (option_no_file n word names (subst IsFileWord (head_of a word xs ys same) is))
first_named n (Flag m) word xs ys is names same = names_once m n word (inl (sym (head_of _ word xs ys same))) names
first_named n (Apart m v) word xs ys is names same =
    names_once m n word (inl (sym (head_of _ word (v ∷ xs) ys same))) names
first_named n (Joined m v) word xs ys is names same =
    names_once m n word (inr (v, sym (head_of _ word xs ys same))) names

unknown_first : (t : Token) (word : List ℕ) (xs ys : List (List ℕ)) → IsToken t → IsUnknown word
    → token_words t ++ xs ≡ word ∷ ys → ⊥
unknown_first (File a) word xs ys is unknown same = unknown.no_file (subst IsFileWord (head_of a word xs ys same) is)
unknown_first (Flag m) word xs ys is unknown same = unknown.no_option m (inl (sym (head_of _ word xs ys same)))
unknown_first (Apart m v) word xs ys is unknown same =
    unknown.no_option m (inl (sym (head_of _ word (v ∷ xs) ys same)))
unknown_first (Joined m v) word xs ys is unknown same =
    unknown.no_option m (inr (v, sym (head_of _ word xs ys same)))

clash : (n m : OptionName) → n ≡ m → takes_value n ≡ false → takes_value m ≡ true → ⊥
clash n m is lacks takes = search (rules, sym lacks ∙ ap takes_value is ∙ takes)

needless_first : (t : Token) (n : OptionName) (value : List ℕ) (xs ys : List (List ℕ)) → IsToken t
    → takes_value n ≡ false → token_words t ++ xs ≡ joined_text n value ∷ ys → ⊥
needless_first (File a) n value xs ys is lacks same =
    option_no_file n _ (inr (value, refl)) (subst IsFileWord (head_of a _ xs ys same) is)
needless_first (Flag m) n value xs ys is lacks same = alone_or_joined m n value (head_of _ _ xs ys same)
needless_first (Apart m v) n value xs ys is lacks same = alone_or_joined m n value (head_of _ _ (v ∷ xs) ys same)
needless_first (Joined m v) n value xs ys is lacks same =
    clash n m (sym (joined_once m n v value (head_of _ _ xs ys same)).0) lacks is

none_left : {A : Type 0} (x : A) (xs : List A) → x ∷ xs ≡ [] → ⊥
none_left x xs is = search rules

missing_first : (t : Token) (n : OptionName) (xs : List (List ℕ)) → IsToken t → takes_value n ≡ true
    → token_words t ++ xs ≡ option_text n ∷ [] → ⊥
missing_first (File a) n xs is takes same =
    option_no_file n _ (inl refl) (subst IsFileWord (head_of a _ xs [] same) is)
missing_first (Flag m) n xs is takes same = clash m n (one_option m n (head_of _ _ xs [] same)) is takes
missing_first (Apart m v) n xs is takes same = none_left v xs (tails _ _ (v ∷ xs) [] same)
missing_first (Joined m v) n xs is takes same = alone_or_joined n m v (sym (head_of _ _ xs [] same))

-- If the first argument of a token is a file name, the token is that file.
pub first_file : (t : Token) (word : List ℕ) (xs ys : List (List ℕ)) → IsToken t → IsFileWord word
    → token_words t ++ xs ≡ word ∷ ys → file_in t ≡ word ∷ []
first_file (File a) word xs ys is file same = ap (λ x. x ∷ []) (head_of a word xs ys same)
first_file (Flag m) word xs ys is file same =
    absurd (option_no_file m word (inl (sym (head_of _ word xs ys same))) file)
first_file (Apart m v) word xs ys is file same =
    absurd (option_no_file m word (inl (sym (head_of _ word (v ∷ xs) ys same))) file)
first_file (Joined m v) word xs ys is file same =
    absurd (option_no_file m word (inr (v, sym (head_of _ word xs ys same))) file)

-- The token after the tokens that were read.
record Next (tokens begun : List Token) (word : List ℕ) (rest : List (List ℕ)) : Type 0 where
  token : Token
  more : List Token
  joined : tokens ≡ begun ++ token ∷ more
  is : IsToken token
  front : token_words token ++ spelled more ≡ word ∷ rest

next_of : (tokens begun : List Token) (word : List ℕ) (rest : List (List ℕ)) → Behind tokens begun (word ∷ rest)
    → Next tokens begun word rest
next_of tokens begun word rest behind = next_in behind.more behind.joined behind.are behind.front where
  next_in : (more : List Token) → tokens ≡ begun ++ more → All IsToken more → spelled more ≡ word ∷ rest
      → Next tokens begun word rest
  next_in [] joined are front = absurd (none_left word rest (sym front))
  next_in (t ∷ more) joined are front =
      record { token = t; more = more; joined = joined; is = All-head IsToken t more are; front = front }

longer : (xs ys : List (List ℕ)) (x : List ℕ) → length xs < length (xs ++ x ∷ ys)
longer [] ys x = grind arith
longer (z ∷ xs) ys x = grind (arith, longer xs ys x)

longer_still : (xs ys zs : List (List ℕ)) (x : List ℕ) → length xs < length ((xs ++ x ∷ ys) ++ zs)
longer_still [] ys zs x = grind arith
longer_still (z ∷ xs) ys zs x = grind (arith, longer_still xs ys zs x)

longer_inside : (xs ys zs : List (List ℕ)) (x : List ℕ) → length (xs ++ ys) < length (xs ++ (ys ++ x ∷ zs))
longer_inside [] ys zs x = longer ys zs x
longer_inside (z ∷ xs) ys zs x = grind (arith, longer_inside xs ys zs x)

nonempty : (xs : List (List ℕ)) → xs ≢ [] → 0 < length xs
nonempty [] some = absurd (some refl)
nonempty (x ∷ xs) some = grind arith

nothing_more : (more : List Token) → spelled more ≡ [] → more ≡ []
nothing_more [] front = refl
nothing_more (t ∷ more) front = absurd (no_first t (spelled more) (sym front))

parts : {A B : Type 0} (f : A → List B) (xs ys : List A) (x : A)
    → flat_map f (xs ++ x ∷ ys) ≡ flat_map f xs ++ (f x ++ flat_map f ys)
parts f xs ys x = flat_map-append f xs (x ∷ ys)

module _ (k : CommandName) (c : Command) (words : List (List ℕ)) (call : IsCall k c words) where
  reached : (word : List ℕ) (tokens : List Token) (rest : List (List ℕ)) → Begin (before_end words) tokens (word ∷ rest)
      → Next call.tokens tokens word rest
  reached word tokens rest begin = next_of call.tokens tokens word rest
      (go_on call.tokens tokens (word ∷ rest) call.are begin.are (sym call.front ∙ begin.front))

  given_here : (n : OptionName) (word : List ℕ) (tokens : List Token) (rest : List (List ℕ))
      → Begin (before_end words) tokens (word ∷ rest) → Names word n
      → (v : List ℕ) × (more : List (List ℕ)) × (values_of call.tokens n ≡ values_of tokens n ++ v ∷ more)
  given_here n word tokens rest begin names =
      let next = reached word tokens rest begin in
      let gives = gives_value n next.token
      (first_named n next.token word (spelled next.more) rest next.is names next.front) in (
        gives.0,
        values_of next.more n,
        ap (λ ts. values_of ts n) next.joined
            ∙ parts (value_in n) tokens next.more next.token
            ∙ ap (λ vs. values_of tokens n ++ (vs ++ values_of next.more n)) gives.1,
      )

  pub word_refused : (e : UsageError) → HasWordFault k (before_end words) e → ⊥
  word_refused (fault.UnknownOption word) (tokens, rest, begin, unknown) =
      let next = reached word.now tokens rest begin in
      unknown_first next.token word.now (spelled next.more) rest next.is unknown next.front
  word_refused (fault.NeedlessValue n value) (tokens, rest, begin, lacks) =
      let next = reached (joined_text n value.now) tokens rest begin in
      needless_first next.token n value.now (spelled next.more) rest next.is lacks next.front
  word_refused (fault.MissingValue n) (takes, (tokens, begin)) =
      let next = reached (option_text n) tokens [] begin in
      missing_first next.token n (spelled next.more) next.is takes next.front
  word_refused (fault.NotOfCommand n other) (is, lacks, (word, names, (tokens, rest, begin, _))) =
      let here = given_here n word tokens rest begin names in
      let none = call.own n lacks in
      let some : length (values_of tokens n) < length (values_of call.tokens n) =
      rw here.2 (longer (values_of tokens n) here.1 here.0) in
      omega (arith, some, ap length none)
  word_refused (fault.Repeated n) (word, names, (tokens, rest, begin, first)) =
      let here = given_here n word tokens rest begin names in
      let before : 0 < length (values_of tokens n) = nonempty (values_of tokens n) first in
      let two : length (values_of tokens n) < length (values_of call.tokens n) =
      rw here.2 (longer (values_of tokens n) here.1 here.0) in
      omega (arith, two, before, call.once n)
  word_refused (fault.ExtraFile file) (is, (tokens, rest, begin, many)) =
      let next = reached file.now tokens rest begin in
      let one = first_file next.token file.now (spelled next.more) rest next.is is next.front in
      let files : files_of call.tokens ≡ files_of tokens ++ (file.now ∷ files_of next.more) =
      ap files_of next.joined ∙ parts file_in tokens next.more next.token
      ∙ ap (λ fs. files_of tokens ++ (fs ++ files_of next.more)) one in
      let count = says_count (values_of call.tokens) k c _ call.says in
      let long : length (files_of tokens) < length (files_of call.tokens ++ after_end words) = rw files
      (longer_still (files_of tokens) (files_of next.more) (after_end words) file.now) in
      omega (arith, long, count, many)
  word_refused _ has = absurd has

  -- The tokens of the command are the tokens that were read.
  pub same_tokens : (tokens : List Token) → All IsToken tokens → before_end words ≡ spelled tokens → call.tokens ≡ tokens
  same_tokens tokens are front =
      let behind = go_on call.tokens tokens [] call.are are (sym call.front ∙ front ∙ sym (append-nil (spelled tokens))) in
      behind.joined ∙ ap (λ more. tokens ++ more) (nothing_more behind.more behind.front) ∙ append-nil tokens

  pub late_refused : (tokens : List Token) → All IsToken tokens → before_end words ≡ spelled tokens
      → (e : UsageError) → HasLateFile (file_count k) (files_of tokens) (after_end words) e → ⊥
  late_refused tokens are front (fault.ExtraFile file) (before, behind, split, many) =
      let same = same_tokens tokens are front in
      let count : length (files_of call.tokens ++ after_end words) ≡ file_count k =
      says_count (values_of call.tokens) k c _ call.says in
      let files : files_of call.tokens ++ after_end words ≡ files_of tokens ++ (before ++ file.now ∷ behind) =
      ap (λ ts. files_of ts ++ after_end words) same ∙ ap (λ fs. files_of tokens ++ fs) split in
      let long : length (files_of tokens ++ before) < length (files_of call.tokens ++ after_end words) =
      rw files
      (longer_inside (files_of tokens) before behind file.now) in
      omega (arith, long, count, many)
  late_refused tokens are front _ has = absurd has
