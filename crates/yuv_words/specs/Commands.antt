-- The meaning of the files and options that a command is given.
use Rattle.std.specs.Prelude.{ℕ, ◌≡◌, ◌-◌, Bool, true, false, List, [], ◌∷◌, drop, length, replicate, take, Option, Some, None}
use Rattle.v_frame_formats.specs.Formats.{IsFormat}
use Rattle.yuv_words.specs.Names.{file_count}
use Rattle.yuv_words.specs.Values.{IsColorRange, IsGain, IsMatrix, IsNumber, IsPlane, IsRatio, IsRaw, IsRectangle}
use Rattle.yuv_words.specs.declared.command.Command.{Command}
use Rattle.yuv_words.specs.declared.command.Command.TheVariants.{Call}
use Rattle.yuv_words.specs.declared.command.CommandName.{CommandName}
use Rattle.yuv_words.specs.declared.command.Options.{Options}
use Rattle.yuv_reports.specs.declared.comparison.ReportForm.{ReportForm}
use Rattle.yuv_reports.specs.declared.comparison.ReportForm.TheVariants.{Lines, Csv, Json}
use Rattle.yuv_words.specs.declared.option_name.OptionName.{OptionName}
use Rattle.yuv_words.specs.declared.option_name.OptionName.TheVariants as option

-- The number of times that an option without a value is given, if it may be given once.
abbrev pub times : Bool → ℕ
times true = 1
times false = 0

-- The texts that are given to an option: one text that spells the value, or no text if there is no
-- value.
abbrev pub SaysValue : {A : Type 0} → (A → List ℕ → Type 0) → Option A → List (List ℕ) → Type 0
SaysValue Spells None texts = texts ≡ []
SaysValue Spells (Some a) texts = (text : List ℕ) × (texts ≡ text ∷ []) × Spells a text

abbrev pub is_csv : ReportForm → Bool
is_csv Lines = false
is_csv Csv = true
is_csv Json = false

abbrev pub is_json : ReportForm → Bool
is_json Lines = false
is_json Csv = false
is_json Json = true

-- The command takes the list `files`. Its files are the first of the three names, and the other
-- names are empty.
abbrev pub AreFiles : CommandName → List ℕ → List ℕ → List ℕ → List (List ℕ) → Type 0
AreFiles name first second third files =
    (files ≡ take (file_count name) (first ∷ second ∷ third ∷ []))
    × (drop (file_count name) (first ∷ second ∷ third ∷ []) ≡ replicate (3 - file_count name) [])

-- The options `o` have the values of the texts that `given` lists for each option: one text each
-- time that the option occurs.
module _ (given : OptionName → List (List ℕ)) where
  pub record SaysOptions (o : Options) : Type 0 where
    pub csv : length (given option.Csv) ≡ times (is_csv o.form)
    pub json : length (given option.Json) ≡ times (is_json o.form)
    pub header : length (given option.Header) ≡ times o.header
    pub ssim : length (given option.Ssim) ≡ times o.ssim
    pub frames : length (given option.Frames) ≡ times o.frames
    pub exact : length (given option.Exact) ≡ times o.exact
    pub half : length (given option.Half) ≡ times o.half
    pub planes : length (given option.Planes) ≡ times o.planes
    pub histogram : length (given option.Histogram) ≡ times o.histogram
    pub raw_output : length (given option.RawOutput) ≡ times o.raw_output
    pub progress : length (given option.Progress) ≡ times o.progress
    pub force : length (given option.Force) ≡ times o.force
    pub salvage : length (given option.Salvage) ≡ times o.salvage
    pub skip : SaysValue IsNumber o.skip (given option.Skip)
    pub skip_second : SaysValue IsNumber o.skip_second (given option.SkipSecond)
    pub count : SaysValue IsNumber o.count (given option.Count)
    pub frame : SaysValue IsNumber o.frame (given option.Frame)
    pub matrix : SaysValue IsMatrix o.matrix (given option.Matrix)
    pub range : SaysValue IsColorRange o.range (given option.Range)
    pub plane : SaysValue IsPlane o.plane (given option.Plane)
    pub crop : SaysValue IsRectangle o.crop (given option.Crop)
    pub gain : SaysValue IsGain o.gain (given option.Gain)
    pub format : SaysValue IsFormat o.format (given option.Format)
    pub rate : SaysValue IsRatio o.rate (given option.Rate)
    pub aspect : SaysValue IsRatio o.aspect (given option.Aspect)
    pub raw : SaysValue IsRaw o.raw (given option.Raw)
    pub raw_second : SaysValue IsRaw o.raw_second (given option.RawSecond)
    pub max_pixels : SaysValue IsNumber o.max_pixels (given option.MaxPixels)

  -- The files and the options are those of this command.
  abbrev pub Says : CommandName → Command → List (List ℕ) → Type 0
  Says name (Call call) files =
      (call.name ≡ name) × AreFiles name call.first.now call.second.now call.third.now files
      × SaysOptions call.options
  Says name _ files = ⊥
