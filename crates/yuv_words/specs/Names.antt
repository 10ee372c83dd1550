-- The texts of commands and options, and the options of each command.
use Rattle.std.specs.Prelude.{ℕ, Bool, true, false, List, [], ◌∷◌, codes}
use Rattle.yuv_words.specs.declared.command.CommandName.{CommandName}
use Rattle.yuv_words.specs.declared.command.CommandName.TheVariants.{Info, Compare, Copy, Sum, Stats, Show, Diff, Plot}
use Rattle.yuv_words.specs.declared.option_name.OptionName.{OptionName}
use Rattle.yuv_words.specs.declared.option_name.OptionName.TheVariants.{Header, Ssim, Frames, Exact, Csv, Json}
use Rattle.yuv_words.specs.declared.option_name.OptionName.TheVariants.{Half, Planes, Histogram, RawOutput}
use Rattle.yuv_words.specs.declared.option_name.OptionName.TheVariants.{Progress, Force, Salvage}
use Rattle.yuv_words.specs.declared.option_name.OptionName.TheVariants.{Raw, RawSecond, MaxPixels}
use Rattle.yuv_words.specs.declared.option_name.OptionName.TheVariants.{Skip, SkipSecond, Count, Crop, Format}
use Rattle.yuv_words.specs.declared.option_name.OptionName.TheVariants.{Rate, Aspect, Frame, Matrix, Range}
use Rattle.yuv_words.specs.declared.option_name.OptionName.TheVariants.{Plane, Gain}

abbrev pub command_text : CommandName → List ℕ
command_text Info = codes "info"
command_text Compare = codes "compare"
command_text Copy = codes "copy"
command_text Sum = codes "sum"
command_text Stats = codes "stats"
command_text Show = codes "show"
command_text Diff = codes "diff"
command_text Plot = codes "plot"

abbrev pub option_text : OptionName → List ℕ
option_text Header = codes "--header"
option_text Ssim = codes "--ssim"
option_text Frames = codes "--frames"
option_text Exact = codes "--exact"
option_text Csv = codes "--csv"
option_text Json = codes "--json"
option_text Half = codes "--half"
option_text Planes = codes "--planes"
option_text Histogram = codes "--histogram"
option_text RawOutput = codes "--raw-output"
option_text Progress = codes "--progress"
option_text Force = codes "--force"
option_text Salvage = codes "--salvage"
option_text Raw = codes "--raw"
option_text RawSecond = codes "--raw-second"
option_text MaxPixels = codes "--max-pixels"
option_text Skip = codes "--skip"
option_text SkipSecond = codes "--skip-second"
option_text Count = codes "--count"
option_text Crop = codes "--crop"
option_text Format = codes "--format"
option_text Rate = codes "--rate"
option_text Aspect = codes "--aspect"
option_text Frame = codes "--frame"
option_text Matrix = codes "--matrix"
option_text Range = codes "--range"
option_text Plane = codes "--plane"
option_text Gain = codes "--gain"

-- Whether the option takes a value.
abbrev pub takes_value : OptionName → Bool
takes_value Header = false
takes_value Ssim = false
takes_value Frames = false
takes_value Exact = false
takes_value Csv = false
takes_value Json = false
takes_value Half = false
takes_value Planes = false
takes_value Histogram = false
takes_value RawOutput = false
takes_value Progress = false
takes_value Force = false
takes_value Salvage = false
takes_value _ = true

abbrev pub options_of : CommandName → List OptionName
options_of Info = Header ∷ Raw ∷ MaxPixels ∷ Progress ∷ []
options_of Compare =
    Ssim ∷ Frames ∷ Exact ∷ Csv ∷ Json ∷ Skip ∷ SkipSecond ∷ Count ∷ Raw ∷ RawSecond ∷ MaxPixels
    ∷ Progress ∷ []
options_of Copy =
    Skip ∷ Count ∷ Crop ∷ Half ∷ Format ∷ Rate ∷ Aspect ∷ Raw ∷ RawOutput ∷ Salvage ∷ Force
    ∷ MaxPixels ∷ Progress ∷ []
options_of Sum = Planes ∷ Skip ∷ Count ∷ Raw ∷ MaxPixels ∷ Progress ∷ []
options_of Stats = Histogram ∷ Range ∷ Skip ∷ Count ∷ Raw ∷ MaxPixels ∷ Progress ∷ []
options_of Show = Frame ∷ Matrix ∷ Range ∷ Plane ∷ Crop ∷ Raw ∷ Force ∷ MaxPixels ∷ []
options_of Diff = Frame ∷ Gain ∷ Raw ∷ RawSecond ∷ Force ∷ MaxPixels ∷ []
options_of Plot =
    Skip ∷ SkipSecond ∷ Count ∷ Raw ∷ RawSecond ∷ Force ∷ MaxPixels ∷ Progress ∷ []

-- The number of files that the command takes.
abbrev pub file_count : CommandName → ℕ
file_count Info = 1
file_count Compare = 2
file_count Copy = 2
file_count Sum = 1
file_count Stats = 1
file_count Show = 2
file_count Diff = 3
file_count Plot = 3
