-- The number of times that values occur in the planes of frames, and the report on these counts.
use Rattle.std.specs.Prelude.{ℕ, ◌≡◌, ◌+◌, ◌-◌, ◌^◌, ◌<◌, ◌≤◌, ◌⊎◌, ◌∷◌, ◌++◌, [], Bool, List, Option, Some, None}
use Rattle.std.specs.Prelude.{codes, count_by, flat_map, is_some, length, map, min, nat_eq, option_to_list, slice_index, sum_by, unwrap_or, IfSome}
use Rattle.std.specs.Io.KnownBytes.{IsAtEnd}
use Rattle.v_frame_semi_planar.specs.declared.format.SemiPlanarFormat.{SemiPlanarFormat}
use Rattle.v_frame.specs.Prelude.{PixelForm, Table, Tables, row_major}
use Rattle.yuv_facts.specs.declared.stats.Counts.{Counts}
use Rattle.yuv_facts.specs.declared.value_counts.ValueCounts.{ValueCounts}
use Rattle.yuv_reports.specs.Histograms.{histogram_rows}
use Rattle.v_frame_formats.specs.declared.component.Component.{Component}
use Rattle.v_frame_formats.specs.declared.component.Component.TheVariants.{Y, U, V}
use Rattle.v_frame_streams.specs.Prelude.{most_frames, tables_of_bytes, CountsFrames as PassesFrames, Framed, ReadsFrames, Sizes}
use Rattle.v_frame_streams.specs.declared.stream.Container.{Container}
use Rattle.yuv_words.specs.declared.command.Options.{Options as OptionWords}

-- The rows of a chroma plane, if the frames have it.
abbrev pub rows_of_chroma : Component → Option ValueCounts → List ℕ
rows_of_chroma plane None = []
rows_of_chroma plane (Some found) = histogram_rows plane 0 found.counts.items

-- A histogram: the names of the columns, and the rows of each plane.
abbrev pub histogram_said : Counts → List ℕ
histogram_said found =
    codes "plane,value,count"
    ++ (10
    ∷ (histogram_rows Y 0 found.y.counts.items
    ++ (rows_of_chroma U found.u ++ rows_of_chroma V found.v)))

-- The number of times that a value occurs in a table.
abbrev pub times_in : {T : Type 0} → PixelForm T → Table T → ℕ → ℕ
times_in form table value = count_by (λ p. nat_eq (form.value p) value) (row_major table)

-- The counts in `old` grew by those in `table`, which has the counts of the values from 0 on. They
-- are limited to the greatest number of 64 bits.
pub record AddsTable (table old new : List ℕ) : Type 0 where
  pub size : length new ≡ length old
  pub more : (value : ℕ) → value < length old → value < length table → slice_index new value
      ≡ min (slice_index old value + slice_index table value) (2 ^ 64 - 1)
  pub same : (value : ℕ) → length table ≤ value → slice_index new value ≡ slice_index old value

-- The counts grew by the number of times that each value occurs in a plane. All values of the plane
-- are below `bound`.
pub record CountsTable {T : Type 0} (form : PixelForm T) (bound : ℕ) (plane : Table T)
    (old new : List ℕ) : Type 0 where
  pub size : length new ≡ length old
  pub more : (value : ℕ) → value < length old → value < bound → slice_index new value
      ≡ min (slice_index old value + times_in form plane value) (2 ^ 64 - 1)
  pub same : (value : ℕ) → bound ≤ value → slice_index new value ≡ slice_index old value

-- The values of a chroma plane were counted, if the frame has it.
abbrev pub CountsChroma : {T : Type 0} → PixelForm T → ℕ → Option (Table T) → Option ValueCounts
    → Option ValueCounts → Type 0
CountsChroma form bound (Some plane) (Some old) (Some new) =
    CountsTable form bound plane old.counts.items new.counts.items
CountsChroma form bound (Some plane) (Some old) None = ⊥
CountsChroma form bound (Some plane) None new = new ≡ None
CountsChroma form bound None old new = new ≡ old

-- The values of a frame were counted in each plane.
pub record CountsFrame {T : Type 0} (form : PixelForm T) (bound : ℕ) (tables : Tables T)
    (old new : Counts) : Type 0 where
  pub y : CountsTable form bound tables.y old.y.counts.items new.y.counts.items
  pub u : CountsChroma form bound tables.u old.u new.u
  pub v : CountsChroma form bound tables.v old.v new.v

-- All counts are 0.
pub record AreZero (counts : List ℕ) : Type 0 where
  pub size : length counts ≡ 2 ^ 16
  pub zero_each : (value : ℕ) → value < 2 ^ 16 → slice_index counts value ≡ 0

pub record CountsNothing (chroma : Bool) (found : Counts) : Type 0 where
  pub y : AreZero found.y.counts.items
  pub u : IfSome found.u (λ counts. AreZero counts.counts.items)
  pub v : IfSome found.v (λ counts. AreZero counts.counts.items)
  pub has_chroma : (is_some found.u ≡ chroma) × (is_some found.v ≡ chroma)

-- ---- all frames of a stream

module _ {T : Type 0} (form : PixelForm T) (bound : ℕ) where
  -- Each count is the number of times that the value occurs in all of these planes together, or the
  -- greatest number of 64 bits. All values are below `bound`.
  pub record CountsPlanes (planes : List (Table T)) (counts : List ℕ) : Type 0 where
    pub size : length counts ≡ 2 ^ 16
    pub each : (value : ℕ) → value < 2 ^ 16 → value < bound → slice_index counts value
        ≡ min (sum_by (λ plane. times_in form plane value) planes) (2 ^ 64 - 1)
    pub others : (value : ℕ) → value < 2 ^ 16 → bound ≤ value → slice_index counts value ≡ 0

  -- The values of frames were counted in each plane, with or without chroma.
  pub record CountsFrames (chroma : Bool) (frames : List (Tables T)) (found : Counts) : Type 0 where
    pub y : CountsPlanes (map (λ tables. tables.y) frames) found.y.counts.items
    pub u : IfSome found.u (λ counts.
        CountsPlanes (flat_map (λ tables. option_to_list tables.u) frames) counts.counts.items)
    pub v : IfSome found.v (λ counts.
        CountsPlanes (flat_map (λ tables. option_to_list tables.v) frames) counts.counts.items)
    pub has_chroma : (is_some found.u ≡ chroma) × (is_some found.v ≡ chroma)

  -- The frames that were read are at most `most`, and fewer only if the stream ends. Their values
  -- were counted.
  pub record CountsStream (from : Container) (frame_len : ℕ) (layout : Option SemiPlanarFormat)
      (sizes : Sizes) (left left' : Option (List ℕ)) (most number : ℕ) (found : Counts)
      : Type 0 where
    pub frames : List Framed
    pub read : ReadsFrames left left' from frame_len frames
    pub taken : length frames ≡ number
    pub within : number ≤ most
    pub ends : (number ≡ most) ⊎ IsAtEnd left'
    pub counted : CountsFrames (is_some sizes.1.0)
        (map (λ frame. tables_of_bytes form layout sizes frame.1) frames) found

  -- The skipped frames were read, and then the values of the selected frames were counted.
  pub record CountsFrom (from : Container) (frame_len : ℕ) (layout : Option SemiPlanarFormat)
      (sizes : Sizes) (left left' : Option (List ℕ)) (options : OptionWords) (number : ℕ)
      (found : Counts) : Type 0 where
    pub start : Option (List ℕ)
    pub passed : ℕ
    pub skipped : PassesFrames left start from frame_len (unwrap_or options.skip 0) passed
    pub counted : CountsStream from frame_len layout sizes start left'
        (unwrap_or options.count most_frames) number found
