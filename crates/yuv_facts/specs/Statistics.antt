-- The statistics of planes, as they are printed.
use Rattle.std.specs.Prelude.{ℕ, ◌≡◌, ◌+◌, ◌-◌, ◌*◌, ◌^◌, ◌<◌, ◌/◌, ◌⊎◌, ◌&&◌, ◌||◌, ◌∷◌, [], Bool, true, false, List, Option, Some, None}
use Rattle.std.specs.Prelude.{if◌then◌else◌, min, nat_le, nat_lt, slice_index}
use Rattle.std.specs.Io.KnownBytes.{Appends}
use Rattle.v_frame.specs.Prelude.{PixelForm}
use Rattle.v_frame_semi_planar.specs.declared.format.SemiPlanarFormat.{SemiPlanarFormat}
use Rattle.yuv_facts.specs.Values.{histogram_said, CountsFrom}
use Rattle.v_frame_rgb.specs.declared.standard.ColorRange.{ColorRange}
use Rattle.v_frame_rgb.specs.declared.standard.ColorRange.TheVariants.{Full, Limited}
use Rattle.yuv_facts.specs.declared.statistics.NominalRange.{NominalRange}
use Rattle.yuv_facts.specs.declared.stats.Counts.{Counts}
use Rattle.yuv_facts.specs.declared.value_counts.ValueCounts.{ValueCounts}
use Rattle.yuv_reports.specs.Samples.{AppendsStatistics}
use Rattle.v_frame_formats.specs.declared.component.Component.{Component}
use Rattle.v_frame_formats.specs.declared.component.Component.TheVariants.{Y, U, V}
use Rattle.yuv_reports.specs.declared.samples.SampleStatistics.{SampleStatistics}
use Rattle.v_frame_streams.specs.Prelude.{Sizes}
use Rattle.v_frame_streams.specs.declared.stream.Container.{Container}
use Rattle.yuv_words.specs.declared.command.Options.{Options as OptionWords}

-- The value of a bit depth that corresponds to a value of 8 bits, as in ITU-R BT.601 and BT.709.
abbrev pub nominal_at : ℕ → ℕ → ℕ
nominal_at depth value = value * 2 ^ min (depth - 8) 8

-- The greatest value of a depth of up to 16 bits.
abbrev pub most_at : ℕ → ℕ
most_at depth = 65535 / 2 ^ (16 - depth)

-- The nominal values of samples: in limited range those that correspond to 16 to `top` in 8 bits,
-- and in full range all values of the depth.
abbrev pub nominal_range : ColorRange → ℕ → ℕ → NominalRange
nominal_range Limited top depth =
    record { least = nominal_at depth 16; greatest = nominal_at depth top; most = most_at depth }
nominal_range Full top depth =
    record { least = 0; greatest = most_at depth; most = most_at depth }

-- The values of 16 bits that are above `most` are outside this range.
abbrev pub range_up_to : ℕ → NominalRange
range_up_to most = record { least = 0; greatest = most; most = 65535 }

-- The value is below the range, or above it and within the depth.
abbrev pub is_outside : NominalRange → ℕ → Bool
is_outside range value =
    nat_lt value range.least || (nat_lt range.greatest value && nat_le value range.most)

-- The number of samples outside the range. The list has the counts of the values from `value` on.
abbrev pub outside_from : NominalRange → ℕ → List ℕ → ℕ
outside_from range value [] = 0
outside_from range value (count ∷ counts) =
    (if is_outside range value then count else 0) + outside_from range (value + 1) counts

-- The statistics `said` are correct for a plane in which the values have these counts.
pub record Describes (plane : Component) (counts : List ℕ) (range : NominalRange)
    (said : SampleStatistics) : Type 0 where
  pub named : said.plane ≡ plane
  pub minimum_occurs : 0 < slice_index counts said.minimum
  pub none_below : (value : ℕ) → value < said.minimum → slice_index counts value ≡ 0
  pub maximum_occurs : 0 < slice_index counts said.maximum
  pub none_above : (value : ℕ) → said.maximum < value → slice_index counts value ≡ 0
  pub outside : said.outside ≡ min (outside_from range 0 counts) (2 ^ 64 - 1)
  pub most : said.most ≡ range.most
  pub above : said.above ≡ min (outside_from (range_up_to range.most) 0 counts) (2 ^ 64 - 1)

-- No value occurs.
abbrev pub HasNoValue : List ℕ → Type 0
HasNoValue counts = (value : ℕ) → slice_index counts value ≡ 0

-- The text got the line of a plane if any value occurs in it.
abbrev pub AppendsPlane : Component → List ℕ → NominalRange → List ℕ → List ℕ → Type 0
AppendsPlane plane counts range old new =
    (HasNoValue counts × (new ≡ old))
    ⊎ ((said : SampleStatistics)
    × Describes plane counts range said × AppendsStatistics old new said)

-- The text got the line of a chroma plane, if the frames have it.
abbrev pub AppendsChroma : Component → Option ValueCounts → NominalRange → List ℕ → List ℕ → Type 0
AppendsChroma plane None range old new = new ≡ old
AppendsChroma plane (Some found) range old new =
    AppendsPlane plane found.counts.items range old new

-- The text has a line for each plane. In limited range, the nominal values end at 235 in 8 bits for
-- luma, and at 240 for chroma.
pub record SaysPlanes (range : ColorRange) (depth : ℕ) (found : Counts) (text : List ℕ) : Type 0 where
  pub luma : List ℕ
  pub both : List ℕ
  pub y : AppendsPlane Y found.y.counts.items (nominal_range range 235 depth) [] luma
  pub u : AppendsChroma U found.u (nominal_range range 240 depth) luma both
  pub v : AppendsChroma V found.v (nominal_range range 240 depth) both text

-- The text is the requested report: a histogram, or a line for each plane.
abbrev pub SaysCounts : Bool → ColorRange → ℕ → Counts → List ℕ → Type 0
SaysCounts true range depth found text = text ≡ histogram_said found
SaysCounts false range depth found text = SaysPlanes range depth found text

-- The selected frames were read, and the report on their samples was written.
pub record ReportsValues {T : Type 0} (form : PixelForm T) (bound : ℕ) (from : Container)
    (frame_len : ℕ) (layout : Option SemiPlanarFormat) (sizes : Sizes)
    (left left' has has' : Option (List ℕ)) (options : OptionWords) (range : ColorRange)
    (depth number : ℕ) : Type 0 where
  pub found : Counts
  pub counted : CountsFrom form bound from frame_len layout sizes left left' options number found
  pub text : List ℕ
  pub says : SaysCounts options.histogram range depth found text
  pub written : Appends has has' text
