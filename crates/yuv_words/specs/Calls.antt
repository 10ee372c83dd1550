-- The commands that arguments request.
use Rattle.std.specs.Prelude.{ℕ, ◌≡◌, ◌≤◌, ◌++◌, ◌⊎◌, ◌||◌, Bool, length, All, Contains, IsTrue, List, [], ◌∷◌, codes}
use Rattle.std.specs.List.{list_any}
use Rattle.std.specs.Str.{bytes_eq}
use Rattle.yuv_words.specs.Commands.{Says}
use Rattle.yuv_words.specs.Names.{command_text, options_of}
use Rattle.yuv_words.specs.Words.{after_end, before_end, files_of, spelled, values_of, IsToken, Token}
use Rattle.yuv_words.specs.declared.command.Command.{Command}
use Rattle.yuv_words.specs.declared.command.Command.TheVariants.{Help, Version}
use Rattle.yuv_words.specs.declared.command.CommandName.{CommandName}
use Rattle.yuv_words.specs.declared.command.Topic.{Topic}
use Rattle.yuv_words.specs.declared.command.Topic.TheVariants as about
use Rattle.yuv_words.specs.declared.option_name.OptionName.{OptionName}

-- The command `name` with the arguments `words`. The arguments before `--` are spelled by tokens.
-- Each of their options is one of the command's options, and occurs at most once. The files are the
-- files among the tokens, followed by all arguments after `--`.
pub record IsCall (name : CommandName) (command : Command) (words : List (List ℕ)) : Type 0 where
  pub tokens : List Token
  pub are : All IsToken tokens
  pub front : before_end words ≡ spelled tokens
  pub once : (option : OptionName) → length (values_of tokens option) ≤ 1
  pub own : (option : OptionName) → ¬ (Contains (options_of name) option)
      → values_of tokens option ≡ []
  pub says : Says (values_of tokens) name command (files_of tokens ++ after_end words)

-- The argument requests help if it is the first one.
abbrev pub IsHelpWord : List ℕ → Type 0
IsHelpWord word = (word ≡ codes "help") ⊎ ((word ≡ codes "--help") ⊎ (word ≡ codes "-h"))

-- Whether an argument after a command requests help.
abbrev pub is_help_option : List ℕ → Bool
is_help_option word = bytes_eq word (codes "--help") || bytes_eq word (codes "-h")

-- An argument after the first one, and before any `--`, requests help.
abbrev pub AsksHelp : List (List ℕ) → Type 0
AsksHelp (first ∷ rest) = IsTrue (list_any is_help_option (before_end rest))
AsksHelp _ = ⊥

-- The argument requests the version if it is the first one.
abbrev pub IsVersionWord : List ℕ → Type 0
IsVersionWord word =
    (word ≡ codes "version") ⊎ ((word ≡ codes "--version") ⊎ (word ≡ codes "-V"))

abbrev pub formats_word : List ℕ
formats_word = codes "formats"

-- The argument names the help topic.
abbrev pub NamesTopic : Topic → List ℕ → Type 0
NamesTopic about.Program word = IsHelpWord word ⊎ IsVersionWord word
NamesTopic (about.Command name) word = word ≡ command_text name
NamesTopic about.Formats word = word ≡ formats_word

-- The arguments after `help` request this topic: no argument for help on the program, or one
-- argument that names the topic.
abbrev pub IsTopic : Topic → List (List ℕ) → Type 0
IsTopic topic words =
    ((words ≡ []) × (topic ≡ about.Program))
    ⊎ ((word : List ℕ) × (words ≡ word ∷ []) × NamesTopic topic word)

-- The arguments are the name of a command that takes files, and arguments of this command.
pub record IsNamedCall (command : Command) (words : List (List ℕ)) : Type 0 where
  pub name : CommandName
  pub rest : List (List ℕ)
  pub named : words ≡ command_text name ∷ rest
  pub call : IsCall name command rest

-- The arguments `words`, without the name of the program, request this command.
abbrev pub IsWrittenAs : List (List ℕ) → Command → Type 0
IsWrittenAs words (Help topic) =
    (word : List ℕ) × (rest : List (List ℕ)) × IsHelpWord word × (words ≡ word ∷ rest)
    × IsTopic topic rest
IsWrittenAs words Version = (word : List ℕ) × IsVersionWord word × (words ≡ word ∷ [])
IsWrittenAs words command = IsNamedCall command words
