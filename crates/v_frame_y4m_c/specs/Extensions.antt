-- The extensions of a header line as a text, and the range of values that they state.
use Rattle.std.specs.Prelude.{ℕ, ◌≡◌, ◌≢◌, ◌++◌, ◌⊎◌, ◌∷◌, ◌&&◌, ◌==◌, not, if◌then◌else◌, Bool, List, [], None, codes, map, ⊤}
use Rattle.std.specs.List.{list_any}
use Rattle.std.specs.Str.{bytes_eq}
use Rattle.v_frame_y4m.specs.Faults.{IsRefusedFor}
use Rattle.v_frame_y4m.specs.Ascii.{extension_letter}
use Rattle.v_frame_y4m.specs.Header.{spelled, IsHeader, IsWritable}
use Rattle.v_frame_y4m.specs.declared.color.Color.TheVariants.{Unstated}
use Rattle.v_frame_y4m.specs.declared.error.HeaderError.{HeaderError}
use Rattle.v_frame_y4m.specs.declared.error.HeaderError.TheVariants.{OutOfMemory as NoMemory}
use Rattle.v_frame_y4m.specs.declared.header.StreamHeader.{StreamHeader}
use Rattle.v_frame_y4m_c.specs.declared.extensions.ExtensionFault.{ExtensionFault}
use Rattle.v_frame_y4m_c.specs.declared.extensions.ExtensionFault.TheVariants.{NotExtensions, OtherRange, OutOfMemory}

-- whether a text is one of the extensions
abbrev pub has : List (List ℕ) → List ℕ → Bool
has extensions text = list_any (λ extension. bytes_eq extension text) extensions

-- The number of the range that extensions state: 1 is limited, 2 is full. It is 0 if they state
-- neither of the two, and if they state both.
abbrev pub range_number : List (List ℕ) → ℕ
range_number extensions =
    if has extensions (codes "COLORRANGE=LIMITED") && not (has extensions (codes "COLORRANGE=FULL"))
    then 1
    else if has extensions (codes "COLORRANGE=FULL") && not (has extensions (codes "COLORRANGE=LIMITED"))
    then 2 else 0

-- the extensions of a header as they stand in its line
abbrev pub extension_texts : StreamHeader → List ℕ
extension_texts h = spelled (map (λ extension. extension_letter ∷ extension) h.extensions)

-- the extension that states the range of a number, as it stands in a header line
abbrev pub range_text : ℕ → List ℕ
range_text number =
    if number == 1 then codes " XCOLORRANGE=LIMITED"
    else if number == 2 then codes " XCOLORRANGE=FULL" else []

-- the header states a picture of 30 by 30 pixels, extensions, and nothing else
pub record IsBare (h : StreamHeader) : Type 0 where
  pub width : h.width ≡ 30
  pub height : h.height ≡ 30
  pub frame_rate : h.frame_rate ≡ None
  pub interlacing : h.interlacing ≡ None
  pub pixel_aspect : h.pixel_aspect ≡ None
  pub color : h.color ≡ Unstated
  pub writable : IsWritable h

-- a short header line with a text at its end
abbrev pub ended_by : List ℕ → List ℕ
ended_by text = codes "YUV4MPEG2 W30 H30" ++ text

-- a header line that ends in the text states these extensions there, and nothing else
abbrev pub SaysExtensions : List ℕ → List (List ℕ) → Type 0
SaysExtensions text extensions =
    (h : StreamHeader) × IsHeader (ended_by text) h × IsBare h × (h.extensions ≡ extensions)

-- why a text states no extensions
abbrev pub AreRefused : List ℕ → ExtensionFault → Type 0
AreRefused text NotExtensions =
    ((error : HeaderError) × IsRefusedFor (ended_by text) error × (error ≢ NoMemory))
    ⊎ ((h : StreamHeader) × IsHeader (ended_by text) h × ¬ (IsBare h))
AreRefused text OtherRange = ⊥
AreRefused text OutOfMemory = ⊤

-- the extensions of a header with this range and a text that states extensions
pub record HasExtensions (range : ℕ) (text : List ℕ) (extensions : List (List ℕ)) : Type 0 where
  pub said : SaysExtensions text extensions ⊎ SaysExtensions (range_text range ++ text) extensions
  pub stated : range_number extensions ≡ range

-- why there are none
abbrev pub HasNoExtensions : ℕ → List ℕ → ExtensionFault → Type 0
HasNoExtensions range text NotExtensions =
    AreRefused text NotExtensions ⊎ AreRefused (range_text range ++ text) NotExtensions
HasNoExtensions range text OtherRange =
    (given : List (List ℕ)) × SaysExtensions text given × (range_number given ≢ range)
    × (both : List (List ℕ)) × SaysExtensions (range_text range ++ text) both × (range_number both ≢ range)
HasNoExtensions range text OutOfMemory = ⊤
