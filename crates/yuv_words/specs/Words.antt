-- The arguments of a command: files and options in any order, and after the argument `--` only
-- files.
use Rattle.std.specs.Prelude.{ℕ, ◌≡◌, ◌≢◌, ◌⊎◌, ◌++◌, Bool, true, false, if◌then◌else◌, List, [], ◌∷◌}
use Rattle.std.specs.Prelude.{codes, flat_map, map, refl, slice_index}
use Rattle.std.specs.List.{after_first, before_first}
use Rattle.std.specs.Str.{bytes_eq}
use Rattle.std.specs.Borrow.{Bor}
use Rattle.yuv_words.specs.Names.{option_text, takes_value}
use Rattle.yuv_words.specs.declared.option_name.OptionName.{OptionName}

abbrev pub dash : ℕ
dash = 45

abbrev pub equals_sign : ℕ
equals_sign = 61

signs_by_name : codes "-=" ≡ dash ∷ equals_sign ∷ []
signs_by_name = refl

-- The texts of borrowed arguments, in their order.
abbrev pub texts_of : List (Bor (List ℕ)) → List (List ℕ)
texts_of words = map (λ word. word.now) words

-- Whether the argument is `--`. Options occur only before it.
abbrev pub is_end : List ℕ → Bool
is_end word = bytes_eq word (codes "--")

abbrev pub before_end : List (List ℕ) → List (List ℕ)
before_end words = before_first is_end words

abbrev pub after_end : List (List ℕ) → List (List ℕ)
after_end words = after_first is_end words

-- The parts of the arguments of a command. An option has no value, a value in the next argument, or
-- a value in the same argument after an equals sign.
pub data Token : Type 0 where
  File : List ℕ → Token
  Flag : OptionName → Token
  Apart : OptionName → List ℕ → Token
  Joined : OptionName → List ℕ → Token

-- The argument --option=value.
abbrev pub joined_text : OptionName → List ℕ → List ℕ
joined_text option value = option_text option ++ equals_sign ∷ value

abbrev pub token_words : Token → List (List ℕ)
token_words (File name) = name ∷ []
token_words (Flag option) = option_text option ∷ []
token_words (Apart option value) = option_text option ∷ value ∷ []
token_words (Joined option value) = joined_text option value ∷ []

abbrev pub spelled : List Token → List (List ℕ)
spelled tokens = flat_map token_words tokens

-- The argument is a file name if it occurs before `--`: it does not begin with a dash, or is a
-- single dash.
abbrev pub IsFileWord : List ℕ → Type 0
IsFileWord word = (slice_index word 0 ≢ dash) ⊎ (word ≡ dash ∷ [])

abbrev pub IsToken : Token → Type 0
IsToken (File name) = IsFileWord name
IsToken (Flag option) = takes_value option ≡ false
IsToken (Apart option value) = takes_value option ≡ true
IsToken (Joined option value) = takes_value option ≡ true

-- The file names of a token: one or none.
abbrev pub file_in : Token → List (List ℕ)
file_in (File name) = name ∷ []
file_in (Flag option) = []
file_in (Apart option value) = []
file_in (Joined option value) = []

abbrev pub files_of : List Token → List (List ℕ)
files_of tokens = flat_map file_in tokens

-- Whether two options are the same.
abbrev pub is_same : OptionName → OptionName → Bool
is_same one other = bytes_eq (option_text one) (option_text other)

-- The texts that a token gives to an option: none if it is a token of another option. An option
-- without a value is given an empty text.
abbrev pub value_in : OptionName → Token → List (List ℕ)
value_in name (File _) = []
value_in name (Flag option) = if is_same name option then [] ∷ [] else []
value_in name (Apart option value) = if is_same name option then value ∷ [] else []
value_in name (Joined option value) = if is_same name option then value ∷ [] else []

abbrev pub values_of : List Token → OptionName → List (List ℕ)
values_of tokens name = flat_map (value_in name) tokens
