-- The tables of a frame, from its bytes.
use Rattle.std.specs.Prelude.{ℕ, ◌≡◌, ◌*◌, ◌/◌, if◌then◌else◌, All, Bool, true, false, List, [], ◌∷◌, drop, length, take}
use Rattle.std.specs.Prelude.{option_map, IfSome, Option, Some, None}
use Rattle.std.specs.Io.KnownBytes.{Consumes, IsAtEnd}
use Rattle.v_frame.specs.Prelude.{cut_rows, width_of, PixelForm, Table, Tables}
use Rattle.v_frame_planar.specs.Shown.{tables_in}
use Rattle.v_frame_planar.specs.Video.{chroma_sizes_of}
use Rattle.v_frame_semi_planar.specs.Format.{begins_with_v, unused_bits}
use Rattle.v_frame_semi_planar.specs.SemiPlanar.{shown_pixels}
use Rattle.v_frame_semi_planar.specs.declared.format.SemiPlanarFormat.{SemiPlanarFormat}
use Rattle.v_frame_y4m.specs.Color.{subsampling_of}
use Rattle.v_frame_y4m.specs.declared.header.StreamHeader.{StreamHeader}
use Rattle.v_frame_streams.specs.Streams.{framed_bytes, IsFrame}
use Rattle.v_frame_streams.specs.declared.stream.Container.{Container}

-- The width and the height of each plane.
abbrev pub Sizes : Type 0
Sizes = (ℕ × ℕ) × (Option (ℕ × ℕ) × Option (ℕ × ℕ))

-- The sizes of the planes of the frames of a stream.
abbrev pub sizes_in : StreamHeader → Sizes
sizes_in header =
    let chroma = chroma_sizes_of (subsampling_of header.color) header.width header.height in
    ((header.width, header.height), (chroma, chroma))

module _ {T : Type 0} where
  -- Every other item of a list, beginning with the first.
  abbrev pub firsts : List T → List T
  firsts (first ∷ second ∷ rest) = first ∷ firsts rest
  firsts _ = []

  -- Every other item of a list, beginning with the second.
  abbrev pub seconds : List T → List T
  seconds (first ∷ second ∷ rest) = second ∷ seconds rest
  seconds _ = []

  -- The tables of a frame from a list of pixels: those of luma, followed by those of U and V,
  -- interleaved.
  abbrev pub tables_by_turns : Bool → Sizes → List T → Tables T
  tables_by_turns v_first sizes pixels =
      let count = sizes.0.0 * sizes.0.1 in
      let chroma = drop count pixels in
      let u = if v_first then seconds chroma else firsts chroma in
      let v = if v_first then firsts chroma else seconds chroma in
      record {
        y = cut_rows sizes.0.0 sizes.0.1 (take count pixels);
        u = option_map (λ size. cut_rows size.0 size.1 u) sizes.1.0;
        v = option_map (λ size. cut_rows size.0 size.1 v) sizes.1.1;
      }

  -- All rows are as long as the first one.
  abbrev pub IsEven : Table T → Type 0
  IsEven table = All (λ row. length row ≡ width_of table) table

  pub record AreEven (tables : Tables T) : Type 0 where
    pub y : IsEven tables.y
    pub u : IfSome tables.u IsEven
    pub v : IfSome tables.v IsEven

module _ {T : Type 0} (form : PixelForm T) where
  -- The tables of a frame with these bytes in a semi-planar layout.
  abbrev pub tables_in_layout : SemiPlanarFormat → Sizes → List ℕ → Tables T
  tables_in_layout layout sizes bytes =
      tables_by_turns (begins_with_v layout) sizes
      (shown_pixels form (unused_bits layout) (length bytes / form.size) bytes)

  -- The tables of a frame with these bytes in a semi-planar layout, or planar without one.
  abbrev pub tables_of_bytes : Option SemiPlanarFormat → Sizes → List ℕ → Tables T
  tables_of_bytes None sizes bytes = tables_in form sizes bytes
  tables_of_bytes (Some layout) sizes bytes = tables_in_layout layout sizes bytes

  module _ (from : Container) (count : ℕ) (layout : Option SemiPlanarFormat) (sizes : Sizes)
      (left left' : Option (List ℕ)) where
    -- A frame with these bytes and these tables was read, or the stream was at its end.
    abbrev pub ReadsTables : List ℕ → Tables T → Bool → Type 0
    ReadsTables bytes tables true =
        (line : List ℕ) × IsFrame from count (line, bytes)
        × Consumes left left' (framed_bytes from (line, bytes))
        × (tables ≡ tables_of_bytes layout sizes bytes)
    ReadsTables bytes tables false = Consumes left left' [] × IsAtEnd left'
