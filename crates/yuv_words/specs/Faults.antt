-- The errors in arguments that request no command.
use Rattle.std.specs.Prelude.{ℕ, ◌≡◌, ◌≢◌, ◌<◌, ◌⊎◌, ◌++◌, ⊤, All, Contains, List, [], ◌∷◌, false, true, length}
use Rattle.yuv_words.specs.Calls.{IsHelpWord, IsVersionWord, NamesTopic}
use Rattle.v_frame_formats.specs.Formats.{IsFormat}
use Rattle.yuv_words.specs.Names.{command_text, file_count, option_text, options_of, takes_value}
use Rattle.yuv_words.specs.Values.{IsColorRange, IsGain, IsMatrix, IsNumber, IsPlane, IsRatio, IsRaw}
use Rattle.yuv_words.specs.Values.{IsRectangle}
use Rattle.yuv_words.specs.Words.{after_end, before_end, files_of, joined_text, spelled, values_of, IsFileWord}
use Rattle.yuv_words.specs.Words.{IsToken, Token}
use Rattle.yuv_words.specs.declared.command.CommandName.{CommandName}
use Rattle.yuv_words.specs.declared.command.Topic.{Topic}
use Rattle.yuv_words.specs.declared.error.UsageError.{UsageError}
use Rattle.yuv_words.specs.declared.error.UsageError.TheVariants as fault
use Rattle.yuv_words.specs.declared.option_name.OptionName.{OptionName}
use Rattle.yuv_words.specs.declared.option_name.OptionName.TheVariants as option

-- The text spells no value.
abbrev pub SpellsNone : {A : Type 0} → (A → List ℕ → Type 0) → List ℕ → Type 0
SpellsNone {A} Spells text = (a : A) → ¬ (Spells a text)

-- The text spells no value of the option.
abbrev pub IsNoValue : OptionName → List ℕ → Type 0
IsNoValue option.Raw text = SpellsNone IsRaw text
IsNoValue option.MaxPixels text = SpellsNone IsNumber text
IsNoValue option.Skip text = SpellsNone IsNumber text
IsNoValue option.SkipSecond text = SpellsNone IsNumber text
IsNoValue option.Count text = SpellsNone IsNumber text
IsNoValue option.RawSecond text = SpellsNone IsRaw text
IsNoValue option.Crop text = SpellsNone IsRectangle text
IsNoValue option.Format text = SpellsNone IsFormat text
IsNoValue option.Rate text = SpellsNone IsRatio text
IsNoValue option.Aspect text = SpellsNone IsRatio text
IsNoValue option.Frame text = SpellsNone IsNumber text
IsNoValue option.Matrix text = SpellsNone IsMatrix text
IsNoValue option.Range text = SpellsNone IsColorRange text
IsNoValue option.Plane text = SpellsNone IsPlane text
IsNoValue option.Gain text = SpellsNone IsGain text
IsNoValue _ text = ⊥

-- A text that is given to an option spells no value of it, or both forms of a report are requested.
abbrev pub HasValueFault : (OptionName → List (List ℕ)) → UsageError → Type 0
HasValueFault given (fault.NotAValue option text) =
    (given option ≡ text.now ∷ []) × IsNoValue option text.now
HasValueFault given fault.TwoForms =
    (length (given option.Csv) ≡ 1) × (length (given option.Json) ≡ 1)
HasValueFault given _ = ⊥

-- There are fewer files than `count`.
abbrev pub HasFileFault : ℕ → List (List ℕ) → UsageError → Type 0
HasFileFault count files fault.MissingFile = length files < count
HasFileFault count files _ = ⊥

-- The arguments `words` are these tokens, followed by `rest`.
pub record Begin (words : List (List ℕ)) (tokens : List Token) (rest : List (List ℕ)) : Type 0 where
  pub are : All IsToken tokens
  pub front : words ≡ spelled tokens ++ rest

-- The argument is the option, with or without a value after an equals sign.
abbrev pub Names : List ℕ → OptionName → Type 0
Names word option =
    (word ≡ option_text option) ⊎ ((value : List ℕ) × (word ≡ joined_text option value))

-- The argument is before `--`, and is neither a file name nor an option.
pub record IsUnknown (word : List ℕ) : Type 0 where
  pub no_file : ¬ (IsFileWord word)
  pub no_option : (option : OptionName) → ¬ (Names word option)

-- The arguments begin with tokens. The next argument is `word`, and cannot follow them.
module _ (name : CommandName) (words : List (List ℕ)) where
  abbrev pub StopsAt : List ℕ → (List Token → Type 0) → Type 0
  StopsAt word After =
      (tokens : List Token) × (rest : List (List ℕ)) × Begin words tokens (word ∷ rest)
      × After tokens

  abbrev pub HasWordFault : UsageError → Type 0
  HasWordFault (fault.UnknownOption word) = StopsAt word.now (λ _. IsUnknown word.now)
  HasWordFault (fault.NeedlessValue option value) =
      StopsAt (joined_text option value.now) (λ _. takes_value option ≡ false)
  HasWordFault (fault.MissingValue option) =
      (takes_value option ≡ true)
      × ((tokens : List Token) × Begin words tokens (option_text option ∷ []))
  HasWordFault (fault.NotOfCommand option other) =
      (other ≡ name) × ¬ (Contains (options_of name) option)
      × ((word : List ℕ) × Names word option × StopsAt word (λ _. ⊤))
  HasWordFault (fault.Repeated option) =
      (word : List ℕ) × Names word option × StopsAt word (λ tokens. values_of tokens option ≢ [])
  HasWordFault (fault.ExtraFile file) =
      IsFileWord file.now × StopsAt file.now (λ tokens. length (files_of tokens) ≡ file_count name)
  HasWordFault _ = ⊥

-- A file after `--` is the first file too many.
abbrev pub HasLateFile : ℕ → List (List ℕ) → List (List ℕ) → UsageError → Type 0
HasLateFile count early late (fault.ExtraFile file) =
    (front back : List (List ℕ)) × (late ≡ front ++ file.now ∷ back)
    × (length (early ++ front) ≡ count)
HasLateFile count early late _ = ⊥

-- The error in the arguments that follow the name of a command.
abbrev pub HasFault : CommandName → List (List ℕ) → UsageError → Type 0
HasFault name words error =
    HasWordFault name (before_end words) error
    ⊎ ((tokens : List Token) × Begin (before_end words) tokens []
    × (HasLateFile (file_count name) (files_of tokens) (after_end words) error
    ⊎ (HasFileFault (file_count name) (files_of tokens ++ after_end words) error
    ⊎ HasValueFault (values_of tokens) error)))

-- The first argument is not the name of a command, and requests neither help nor the version.
pub record IsNoCommand (word : List ℕ) : Type 0 where
  pub no_name : (name : CommandName) → word ≢ command_text name
  pub no_help : ¬ (IsHelpWord word)
  pub no_version : ¬ (IsVersionWord word)

-- The error in the arguments that follow `help`.
abbrev pub HasTopicFault : List (List ℕ) → UsageError → Type 0
HasTopicFault words (fault.UnknownCommand word) =
    (words ≡ word.now ∷ []) × ((topic : Topic) → ¬ (NamesTopic topic word.now))
HasTopicFault words (fault.ExtraWord word) =
    (topic : List ℕ) × (rest : List (List ℕ)) × (words ≡ topic ∷ word.now ∷ rest)
HasTopicFault words _ = ⊥

abbrev pub IsUnknownCommand : List ℕ → UsageError → Type 0
IsUnknownCommand first (fault.UnknownCommand word) = (word.now ≡ first) × IsNoCommand first
IsUnknownCommand first _ = ⊥

abbrev pub HasExtraWord : List (List ℕ) → UsageError → Type 0
HasExtraWord words (fault.ExtraWord word) = (rest : List (List ℕ)) × (words ≡ word.now ∷ rest)
HasExtraWord words _ = ⊥

-- The error in the arguments of the program.
abbrev pub IsRefusedFor : List (List ℕ) → UsageError → Type 0
IsRefusedFor words error =
    ((words ≡ []) × (error ≡ fault.NoCommand))
    ⊎ ((first : List ℕ) × (rest : List (List ℕ)) × (words ≡ first ∷ rest)
    × (IsUnknownCommand first error
    ⊎ ((IsHelpWord first × HasTopicFault rest error)
    ⊎ ((IsVersionWord first × HasExtraWord rest error)
    ⊎ ((name : CommandName) × (first ≡ command_text name) × HasFault name rest error)))))
