-- The meaning of the arguments that were read so far.
use Rattle.std.specs.Prelude.{ℕ, ◌≡◌, ◌≤◌, ◌⊎◌, ◌++◌, All, Contains, IfSome, List, [], ◌∷◌, length, true, slice_index_or, Option, Some, None}
use Rattle.std.specs.Borrow.{Bor}
use denote.Enum.Declared.{tag_of}
use Rattle.yuv_words.specs.Commands.{Says}
use Rattle.yuv_words.specs.Faults.{HasFileFault, HasValueFault, IsUnknown}
use Rattle.yuv_words.specs.Names.{file_count, option_text, options_of, takes_value}
use Rattle.yuv_words.specs.Words.{files_of, joined_text, spelled, values_of, IsFileWord, IsToken, Token}
use Rattle.yuv_words.specs.contracts.option_name.OptionName.{the_type}
use Rattle.yuv_words.specs.declared.command.Command.{Command}
use Rattle.yuv_words.specs.declared.command.CommandName.{CommandName}
use Rattle.yuv_words.specs.declared.error.UsageError.{UsageError}
use Rattle.yuv_words.specs.declared.files.Files.{Files}
use Rattle.yuv_words.specs.declared.files.Files.TheVariants.{Zero, One, Two, Three}
use Rattle.yuv_words.specs.declared.given.Given.{Given}
use Rattle.yuv_words.specs.declared.option_name.OptionName.{OptionName}
use Rattle.yuv_words.specs.declared.reading.Reading.{Reading}
use Rattle.yuv_words.specs.declared.word.Word.{Word}
use Rattle.yuv_words.specs.declared.word.Word.TheVariants as word

-- The index of an option among all options.
abbrev pub option_place : OptionName → ℕ
option_place option = tag_of the_type option

-- A list of the text of an argument, or an empty list if there is no argument.
abbrev pub text_in : Option (Bor (List ℕ)) → List (List ℕ)
text_in None = []
text_in (Some word) = word.now ∷ []

abbrev pub given_to : Given → OptionName → List (List ℕ)
given_to given option = text_in (slice_index_or given.texts (option_place option) None)

abbrev pub file_names : Files → List (List ℕ)
file_names Zero = []
file_names (One first) = first.now ∷ []
file_names (Two first second) = first.now ∷ second.now ∷ []
file_names (Three first second third) = first.now ∷ second.now ∷ third.now ∷ []

-- The options that were given and the files request this command.
abbrev pub IsSaid : Given → Files → CommandName → Command → Type 0
IsSaid given files name command = Says (given_to given) name command (file_names files)

abbrev pub HasSaidFault : Given → Files → CommandName → UsageError → Type 0
HasSaidFault given files name error =
    HasFileFault (file_count name) (file_names files) error ⊎ HasValueFault (given_to given) error

-- The text of the option whose value is the next argument, if there is one.
abbrev pub awaited : Option OptionName → List (List ℕ)
awaited None = []
awaited (Some option) = option_text option ∷ []

-- The kind of an argument.
abbrev pub IsWord : List ℕ → Word → Type 0
IsWord text word.File = IsFileWord text
IsWord text (word.Option option) = text ≡ option_text option
IsWord text (word.Joined option value) = text ≡ joined_text option value.now
IsWord text word.Unknown = IsUnknown text

-- The option belongs to the command and takes a value, and no token before gives it one.
pub record MayAwait (name : CommandName) (tokens : List Token) (option : OptionName) : Type 0 where
  pub takes : takes_value option ≡ true
  pub own : Contains (options_of name) option
  pub first : values_of tokens option ≡ []

-- The arguments `words` so far are spelled by tokens, and `reading` has the files and options of
-- these tokens.
pub record IsRead (name : CommandName) (words : List (List ℕ)) (reading : Reading) : Type 0 where
  pub tokens : List Token
  pub are : All IsToken tokens
  pub front : words ≡ spelled tokens ++ awaited reading.awaiting
  pub files : file_names reading.files ≡ files_of tokens
  pub few : length (file_names reading.files) ≤ file_count name
  pub given : (option : OptionName) → given_to reading.given option ≡ values_of tokens option
  pub own : (option : OptionName) → ¬ (Contains (options_of name) option)
      → values_of tokens option ≡ []
  pub may : IfSome reading.awaiting (MayAwait name tokens)
