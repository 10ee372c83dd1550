-- The values of options, and the texts that spell them.
use Rattle.std.specs.Prelude.{ℕ, ◌≡◌, ◌<◌, ◌^◌, ◌++◌, ◌⊎◌, Bool, false, true, List, [], ◌∷◌, codes, decimal, refl, Option, Some, None}
use Rattle.v_frame_rgb.specs.declared.standard.ColorRange.{ColorRange}
use Rattle.v_frame_rgb.specs.declared.standard.ColorRange.TheVariants.{Limited, Full}
use Rattle.v_frame_rgb.specs.declared.standard.Standard.{Standard}
use Rattle.v_frame_rgb.specs.declared.standard.Standard.TheVariants.{Bt601, Bt709, Bt2020}
use Rattle.v_frame_y4m.specs.Header.{FitsRatio}
use Rattle.v_frame_y4m.specs.declared.header.Ratio.{Ratio}
use Rattle.v_frame_formats.specs.Formats.{full_range_format, IsFormat}
use Rattle.v_frame_formats.specs.declared.component.Component.{Component}
use Rattle.v_frame_formats.specs.declared.component.Component.TheVariants.{Y, U, V}
use Rattle.yuv_words.specs.declared.command.RawVideo.{RawVideo}
use Rattle.v_frame_formats.specs.declared.rectangle.Rectangle.{Rectangle}
use Rattle.v_frame_formats.specs.declared.format.VideoFormat.{VideoFormat}

-- The characters that separate numbers: a comma in a rectangle, an x in a size, a colon or a slash
-- in a ratio. A colon also precedes a format, and an at sign precedes a rate.
abbrev pub comma : ℕ
comma = 44

abbrev pub colon : ℕ
colon = 58

abbrev pub at_sign : ℕ
at_sign = 64

abbrev pub letter_x : ℕ
letter_x = 120

abbrev pub slash : ℕ
slash = 47

marks_by_name : codes ",:@x/" ≡ comma ∷ colon ∷ at_sign ∷ letter_x ∷ slash ∷ []
marks_by_name = refl

-- A number below 2 ^ 64 in decimal digits, without a sign and without leading zeros.
abbrev pub IsNumber : ℕ → List ℕ → Type 0
IsNumber n text = (text ≡ decimal n) × (n < 2 ^ 64)

abbrev pub IsGain : ℕ → List ℕ → Type 0
IsGain n text = (text ≡ decimal n) × (0 < n) × (n < 2 ^ 16)

-- Two numbers above 0, separated by `mark`.
abbrev pub IsRatioWith : ℕ → Ratio → List ℕ → Type 0
IsRatioWith mark ratio text =
    (text ≡ decimal ratio.numerator ++ mark ∷ decimal ratio.denominator) × FitsRatio ratio
    × (0 < ratio.numerator) × (0 < ratio.denominator)

-- N:D, N/D or N, with N and D above 0.
abbrev pub IsRatio : Ratio → List ℕ → Type 0
IsRatio ratio text =
    IsRatioWith colon ratio text
    ⊎ (IsRatioWith slash ratio text
    ⊎ (IsNumber ratio.numerator text × (0 < ratio.numerator) × (ratio.denominator ≡ 1)))

-- The text X,Y,WIDTH,HEIGHT.
abbrev pub rectangle_text : Rectangle → List ℕ
rectangle_text r =
    decimal r.x ++ comma ∷ (decimal r.y ++ comma ∷ (decimal r.width ++ comma ∷ decimal r.height))

pub record FitsRectangle (r : Rectangle) : Type 0 where
  pub x : r.x < 2 ^ 64
  pub y : r.y < 2 ^ 64
  pub width : r.width < 2 ^ 64
  pub height : r.height < 2 ^ 64

-- The text spells the rectangle, which may have no pixels.
abbrev pub SpellsRectangle : Rectangle → List ℕ → Type 0
SpellsRectangle r text = (text ≡ rectangle_text r) × FitsRectangle r

abbrev pub IsRectangle : Rectangle → List ℕ → Type 0
IsRectangle r text = SpellsRectangle r text × (0 < r.width) × (0 < r.height)

-- The name is a name of the format. Formats with full range have different names.
abbrev pub NamesRaw : VideoFormat → Bool → List ℕ → Type 0
NamesRaw format false name = IsFormat format name
NamesRaw format true name = full_range_format name ≡ Some format

-- The text is a name, followed by an at sign and the rate if there is a rate.
abbrev pub IsRated : List ℕ → Option Ratio → List ℕ → Type 0
IsRated name None text = text ≡ name
IsRated name (Some rate) text =
    (rest : List ℕ) × (text ≡ name ++ at_sign ∷ rest) × IsRatio rate rest

-- The text is FORMAT or FORMAT@RATE.
pub record SpellsFormat (format : VideoFormat) (full : Bool) (rate : Option Ratio) (text : List ℕ) : Type 0 where
  pub name : List ℕ
  pub named : NamesRaw format full name
  pub rated : IsRated name rate text

-- The text is WIDTHxHEIGHT:, followed by the format. The size may be 0.
pub record SpellsRaw (raw : RawVideo) (text : List ℕ) : Type 0 where
  pub rest : List ℕ
  pub spelled : text ≡ decimal raw.width ++ letter_x ∷ (decimal raw.height ++ colon ∷ rest)
  pub format : SpellsFormat raw.format raw.full_range raw.rate rest
  pub width : raw.width < 2 ^ 64
  pub height : raw.height < 2 ^ 64

abbrev pub IsRaw : RawVideo → List ℕ → Type 0
IsRaw raw text = SpellsRaw raw text × (0 < raw.width) × (0 < raw.height)

abbrev pub matrix_text : Standard → List ℕ
matrix_text Bt601 = codes "bt601"
matrix_text Bt709 = codes "bt709"
matrix_text Bt2020 = codes "bt2020"

abbrev pub range_text : ColorRange → List ℕ
range_text Limited = codes "limited"
range_text Full = codes "full"

abbrev pub plane_text : Component → List ℕ
plane_text Y = codes "y"
plane_text U = codes "u"
plane_text V = codes "v"

abbrev pub IsMatrix : Standard → List ℕ → Type 0
IsMatrix standard text = text ≡ matrix_text standard

abbrev pub IsColorRange : ColorRange → List ℕ → Type 0
IsColorRange range text = text ≡ range_text range

abbrev pub IsPlane : Component → List ℕ → Type 0
IsPlane plane text = text ≡ plane_text plane
