-- Examples that were calculated by hand. Each one is proved by computation (`refl`).
use Rattle.std.specs.Prelude.{◌≡◌, List, [], ◌∷◌, codes, refl}
use Rattle.yuv_words.specs.Commands.{AreFiles}
use Rattle.yuv_words.specs.Words.{after_end, before_end, files_of, spelled, values_of, Apart, File, Flag, Joined, Token}
use Rattle.yuv_words.specs.declared.command.CommandName.TheVariants as command
use Rattle.yuv_words.specs.declared.option_name.OptionName.TheVariants as option

-- a.y4m --skip 5 --count=9 b.y4m --half
abbrev tokens : List Token
tokens =
    File (codes "a.y4m") ∷ Apart option.Skip (codes "5") ∷ Joined option.Count (codes "9")
    ∷ File (codes "b.y4m") ∷ Flag option.Half ∷ []

words_are : spelled tokens
    ≡ codes "a.y4m" ∷ codes "--skip" ∷ codes "5" ∷ codes "--count=9" ∷ codes "b.y4m"
    ∷ codes "--half" ∷ []
words_are = refl

files_are : files_of tokens ≡ codes "a.y4m" ∷ codes "b.y4m" ∷ []
files_are = refl

skip_is : values_of tokens option.Skip ≡ codes "5" ∷ []
skip_is = refl

count_is : values_of tokens option.Count ≡ codes "9" ∷ []
count_is = refl

half_is : values_of tokens option.Half ≡ [] ∷ []
half_is = refl

crop_is : values_of tokens option.Crop ≡ []
crop_is = refl

-- A command that takes two files has no third file.
two_files_are : AreFiles command.Copy (codes "a.y4m") (codes "b.y4m") []
    (codes "a.y4m" ∷ codes "b.y4m" ∷ [])
two_files_are = (refl, refl)

-- After the first `--`, a second `--` is a file name.
front_is : before_end (codes "--half" ∷ codes "--" ∷ codes "-x" ∷ codes "--" ∷ [])
    ≡ codes "--half" ∷ []
front_is = refl

behind_is : after_end (codes "--half" ∷ codes "--" ∷ codes "-x" ∷ codes "--" ∷ [])
    ≡ codes "-x" ∷ codes "--" ∷ []
behind_is = refl
