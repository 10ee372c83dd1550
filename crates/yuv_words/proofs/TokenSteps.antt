-- The files and options after one more argument is read.
use Rattle.std.proofs.Common.{ℕ, ◌≡◌, ◌≢◌, Bool, true, false, List, [], ◌∷◌, ◌++◌, refl, sym, ◌∙◌, ap, subst}
use Rattle.std.proofs.Common.{append_assoc, arith, inl, inr, length, ◌⊎◌, ◌<◌, ◌≤◌, rules}
use Rattle.std.specs.Prelude.{flat_map, if◌then◌else◌, Contains, IfSome, None, Some}
use Rattle.std.specs.Cmp.Lexicographic.{bytes_decides}
use Rattle.std.proofs.lemmas.List.{append-nil, length-append}
use Rattle.std.proofs.lemmas.List.Concat.{flat_map-append}
use Rattle.std.proofs.lemmas.List.Elements.{All-push}
use Rattle.yuv_words.specs.Names.{file_count, option_text, options_of, takes_value}
use Rattle.yuv_words.specs.Reading.{awaited, file_names, given_to, IsRead, MayAwait}
use Rattle.yuv_words.specs.Words.{file_in, files_of, is_same, spelled, token_words, value_in, values_of}
use Rattle.yuv_words.specs.Words.{Apart, File, IsFileWord, IsToken, Token}
use Rattle.yuv_words.specs.declared.command.CommandName.{CommandName}
use Rattle.yuv_words.specs.declared.option_name.OptionName.{OptionName}
use Rattle.yuv_words.specs.declared.reading.Reading.{Reading}
use Rattle.yuv_words.proofs.Places.{one_option}

push_flat : {A B : Type 0} (f : A → List B) (xs : List A) (x : A) → flat_map f (xs ++ x ∷ []) ≡ flat_map f xs ++ f x
push_flat f xs x = flat_map-append f xs (x ∷ []) ∙ ap (λ ys. flat_map f xs ++ ys) (append-nil (f x))

bool_cases : (b : Bool) → (b ≡ true) ⊎ (b ≡ false)
bool_cases true = inl refl
bool_cases false = inr refl

-- Two options are the same or differ.
same_cases : (n option : OptionName) → ((n ≡ option) × (is_same n option ≡ true)) ⊎ ((n ≢ option) × (is_same n option ≡ false))
same_cases n option =
    let decides = bytes_decides (option_text n) (option_text option) in
    elim (bool_cases (is_same n option)) [
      | inl equal ↦ inl (one_option n option (decides.0 equal), equal)
      | inr differ ↦ inr ((λ is. absurd (search (rules, decides.1 (ap option_text is)))), differ)
    ]

-- The token gives this value to the option.
abbrev pub Gives : Token → OptionName → List ℕ → Type 0
Gives token option value = (n : OptionName) → value_in n token ≡ (if is_same n option then value ∷ [] else [])

module _ (tokens : List Token) (token : Token) (option : OptionName) (value : List ℕ) (gives : Gives token option value) where
  values_here : values_of tokens option ≡ [] → (n : OptionName) → n ≡ option → is_same n option ≡ true
      → values_of (tokens ++ token ∷ []) n ≡ value ∷ []
  values_here first n same is =
      push_flat (value_in n) tokens token
      ∙ ap (λ (m : OptionName). values_of tokens m ++ value_in n token) same
      ∙ ap (λ xs. xs ++ value_in n token) first
      ∙ gives n ∙ ap (λ b. if b then value ∷ [] else []) is

  values_there : (n : OptionName) → is_same n option ≡ false
      → values_of (tokens ++ token ∷ []) n ≡ values_of tokens n
  values_there n is =
      push_flat (value_in n) tokens token
      ∙ ap (λ xs. values_of tokens n ++ xs) (gives n ∙ ap (λ b. if b then value ∷ [] else []) is)
      ∙ append-nil (values_of tokens n)

module _ (name : CommandName) (words : List (List ℕ)) (word : List ℕ) (old new : Reading) where
  -- A token of an option that occurs for the first time was read.
  pub option_read : (token : Token) (option : OptionName) (value : List ℕ) → Gives token option value
      → IsToken token → file_in token ≡ [] → Contains (options_of name) option
      → given_to new.given option ≡ value ∷ []
      → ((n : OptionName) → n ≢ option → given_to new.given n ≡ given_to old.given n)
      → new.files ≡ old.files → new.awaiting ≡ None
      → (read : IsRead name words old) → values_of read.tokens option ≡ []
      → words ++ word ∷ [] ≡ spelled read.tokens ++ token_words token
      → IsRead name (words ++ word ∷ []) new
  option_read token option value gives is no_file own given others files awaiting read first front =
      record {
        tokens = read.tokens ++ token ∷ [];
        are = All-push IsToken read.tokens token read.are is;
        front = front ∙ sym (push_flat token_words read.tokens token)
            ∙ sym (append-nil (spelled (read.tokens ++ token ∷ [])))
            ∙ ap (λ xs. spelled (read.tokens ++ token ∷ []) ++ awaited xs) (sym awaiting);
        files = ap file_names files ∙ read.files ∙ sym (append-nil (files_of read.tokens))
            ∙ ap (λ xs. files_of read.tokens ++ xs) (sym no_file) ∙ sym (push_flat file_in read.tokens token);
        few = subst (λ fs. length (file_names fs) ≤ file_count name) (sym files) read.few;
        given = λ n. elim (same_cases n option) [
          | inl same ↦ ap (given_to new.given) same.0 ∙ given
              ∙ sym (values_here read.tokens token option value gives first n same.0 same.1)
          | inr other ↦ others n other.0 ∙ read.given n
              ∙ sym (values_there read.tokens token option value gives n other.1)
        ];
        own = λ n lacks. elim (same_cases n option) [
          | inl same ↦ absurd (lacks (subst (Contains (options_of name)) (sym same.0) own))
          | inr other ↦ values_there read.tokens token option value gives n other.1 ∙ read.own n lacks
        ];
        may = subst (λ awaits. IfSome awaits (MayAwait name (read.tokens ++ token ∷ []))) (sym awaiting) tt;
      }

  -- A file name was read.
  pub file_read : IsFileWord word → file_names new.files ≡ file_names old.files ++ word ∷ []
      → length (file_names old.files) < file_count name
      → new.given ≡ old.given → old.awaiting ≡ None → new.awaiting ≡ None
      → IsRead name words old → IsRead name (words ++ word ∷ []) new
  file_read is files room given before after read =
      record {
        tokens = read.tokens ++ File word ∷ [];
        are = All-push IsToken read.tokens (File word) read.are is;
        front = ap (λ xs. xs ++ word ∷ []) (read.front ∙ ap (λ xs. spelled read.tokens ++ awaited xs) before
            ∙ append-nil (spelled read.tokens))
            ∙ sym (push_flat token_words read.tokens (File word))
            ∙ sym (append-nil (spelled (read.tokens ++ File word ∷ [])))
            ∙ ap (λ xs. spelled (read.tokens ++ File word ∷ []) ++ awaited xs) (sym after);
        files = files ∙ ap (λ xs. xs ++ word ∷ []) read.files ∙ sym (push_flat file_in read.tokens (File word));
        few = omega (arith, room, ap length files, length-append (file_names old.files) (word ∷ []));
        given = λ n. ap (λ g. given_to g n) given ∙ read.given n ∙ sym (append-nil (values_of read.tokens n))
            ∙ sym (push_flat (value_in n) read.tokens (File word));
        own = λ n lacks. push_flat (value_in n) read.tokens (File word) ∙ append-nil (values_of read.tokens n)
            ∙ read.own n lacks;
        may = subst (λ awaits. IfSome awaits (MayAwait name (read.tokens ++ File word ∷ []))) (sym after) tt;
      }

  -- An option was read whose value is the next argument.
  pub await_read : (option : OptionName) → word ≡ option_text option → takes_value option ≡ true
      → Contains (options_of name) option → given_to old.given option ≡ []
      → new.files ≡ old.files → new.given ≡ old.given → old.awaiting ≡ None → new.awaiting ≡ Some option
      → IsRead name words old → IsRead name (words ++ word ∷ []) new
  await_read option is takes own first files given before after read =
      record {
        tokens = read.tokens;
        are = read.are;
        front = ap (λ xs. xs ++ word ∷ []) (read.front ∙ ap (λ xs. spelled read.tokens ++ awaited xs) before
            ∙ append-nil (spelled read.tokens))
            ∙ ap (λ xs. spelled read.tokens ++ xs ∷ []) is
            ∙ ap (λ xs. spelled read.tokens ++ awaited xs) (sym after);
        files = ap file_names files ∙ read.files;
        few = subst (λ fs. length (file_names fs) ≤ file_count name) (sym files) read.few;
        given = λ n. ap (λ g. given_to g n) given ∙ read.given n;
        own = read.own;
        may = subst (λ awaits. IfSome awaits (MayAwait name read.tokens)) (sym after)
            (record { takes = takes; own = own; first = sym (read.given option) ∙ first });
      }

  -- The value of the previous option was read.
  pub value_read : (option : OptionName) → old.awaiting ≡ Some option → new.awaiting ≡ None
      → new.files ≡ old.files → given_to new.given option ≡ word ∷ []
      → ((n : OptionName) → n ≢ option → given_to new.given n ≡ given_to old.given n)
      → IsRead name words old → IsRead name (words ++ word ∷ []) new
  value_read option before after files given others read =
      let may = subst (λ awaits. IfSome awaits (MayAwait name read.tokens)) before read.may in
      option_read (Apart option word) option word (λ n. refl) may.takes refl may.own given others files after read may.first
      (ap (λ xs. xs ++ word ∷ []) (read.front ∙ ap (λ xs. spelled read.tokens ++ awaited xs) before)
      ∙ append_assoc (spelled read.tokens) (option_text option ∷ []) (word ∷ []))

  -- An option was read that takes no value, or has its value in the same argument.
  pub whole_read : (token : Token) (option : OptionName) (value : List ℕ) → Gives token option value
      → IsToken token → file_in token ≡ [] → token_words token ≡ word ∷ [] → Contains (options_of name) option
      → given_to old.given option ≡ [] → given_to new.given option ≡ value ∷ []
      → ((n : OptionName) → n ≢ option → given_to new.given n ≡ given_to old.given n)
      → new.files ≡ old.files → old.awaiting ≡ None → new.awaiting ≡ None
      → IsRead name words old → IsRead name (words ++ word ∷ []) new
  whole_read token option value gives is no_file written own first given others files before after read =
      option_read token option value gives is no_file own given others files after read
      (sym (read.given option) ∙ first)
      (ap (λ xs. xs ++ word ∷ []) (read.front ∙ ap (λ xs. spelled read.tokens ++ awaited xs) before
      ∙ append-nil (spelled read.tokens)) ∙ ap (λ xs. spelled read.tokens ++ xs) (sym written))
