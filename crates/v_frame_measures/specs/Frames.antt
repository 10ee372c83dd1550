-- Measures of two frames: the value for each plane, and the mean of all planes weighted by pixels.
use Rattle.std.specs.Prelude.{ℕ, ◌≡◌, ◌+◌, ◌*◌, ◌≤◌, Option, Some, None, IfSome, option_map}
use Rattle.std.specs.Float.{float_zero}
use Rattle.std.specs.Float.Ieee.{Float, binary64, add, mul, div}
use Rattle.v_frame.specs.Prelude.{Table, Tables, width_of, height_of}
use Rattle.v_frame_measures.specs.declared.frames.FrameMeasure.{FrameMeasure}
use Rattle.v_frame_measures.specs.declared.frames.CountedMeasure.{CountedMeasure}
use Rattle.v_frame_measures.specs.Errors.{double}

-- The number of pixels of a plane, or 0 if it is missing.
abbrev pub pixels_counted : Option CountedMeasure → ℕ
pixels_counted (Some plane) = plane.pixels
pixels_counted None = 0

-- `sum` with the share of a plane added: its measure, multiplied by its pixels divided by `all`.
abbrev pub share_added : Float → Float → Option CountedMeasure → Float
share_added all sum (Some plane) =
    add binary64 sum (mul binary64 (div binary64 (double plane.pixels) all) plane.value)
share_added all sum None = sum

-- The measures of the planes with their mean, weighted by the pixels of the planes.
abbrev pub frame_measure : CountedMeasure → Option CountedMeasure → Option CountedMeasure
    → FrameMeasure
frame_measure y u v =
    let all = double (y.pixels + pixels_counted u + pixels_counted v) in
    record {
      y = y.value;
      u = option_map (λ plane. plane.value) u;
      v = option_map (λ plane. plane.value) v;
      all = share_added all (share_added all (share_added all float_zero (Some y)) u) v;
    }

module _ {T : Type 0} where
  -- The width and the height of a table.
  abbrev pub size_of : Table T → ℕ × ℕ
  size_of table = (width_of table, height_of table)

  -- Both frames have the same planes, each plane with the same size in both frames.
  pub record HaveOneSize (a b : Tables T) : Type 0 where
    pub y : size_of a.y ≡ size_of b.y
    pub u : option_map size_of a.u ≡ option_map size_of b.u
    pub v : option_map size_of a.v ≡ option_map size_of b.v

  -- A plane is at least 8 by 8 pixels, the size of a window.
  pub record HasWindows (table : Table T) : Type 0 where
    pub wide : 8 ≤ width_of table
    pub high : 8 ≤ height_of table

  -- Each plane of a frame is at least 8 by 8 pixels.
  pub record HaveWindows (tables : Tables T) : Type 0 where
    pub y : HasWindows tables.y
    pub u : IfSome tables.u HasWindows
    pub v : IfSome tables.v HasWindows

  -- A measure of two planes, with their number of pixels.
  abbrev pub counted : (Table T → Table T → Float) → Table T → Table T → CountedMeasure
  counted measure a b = record { pixels = width_of a * height_of a; value = measure a b }

  -- A measure of two chroma planes with their number of pixels, or `None` if one is missing.
  abbrev pub counted_chroma : (Table T → Table T → Float) → Option (Table T) → Option (Table T)
      → Option CountedMeasure
  counted_chroma measure (Some a) (Some b) = Some (counted measure a b)
  counted_chroma measure _ _ = None

  -- A measure of two frames, plane by plane.
  abbrev pub measured : (Table T → Table T → Float) → Tables T → Tables T → FrameMeasure
  measured measure a b =
      frame_measure (counted measure a.y b.y) (counted_chroma measure a.u b.u)
      (counted_chroma measure a.v b.v)
