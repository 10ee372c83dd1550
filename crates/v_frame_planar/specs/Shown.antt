-- The tables of a frame, from its planar bytes.
use Rattle.std.specs.Prelude.{ℕ, ◌≡◌, ◌*◌, List, drop, length, take, Option, Some, option_map}
use Rattle.v_frame.specs.Prelude.{Frame, PixelForm, Table, Tables, strided_table, tables_of}
use Rattle.v_frame_planar.specs.Planar.{byte_count, plane_byte_count, sizes_of}

module _ {T : Type 0} (form : PixelForm T) where
  -- The table of this size whose bytes come first.
  abbrev pub table_in : List ℕ → ℕ × ℕ → Table T
  table_in bytes size =
      let row = size.0 * form.size in
      strided_table form size.0 size.1 row (take (size.0 * size.1 * form.size) bytes)

  -- The tables of a frame: the bytes of Y come first, then those of U, then those of V.
  abbrev pub tables_in : (ℕ × ℕ) × (Option (ℕ × ℕ) × Option (ℕ × ℕ)) → List ℕ → Tables T
  tables_in sizes bytes =
      let behind_y = drop (plane_byte_count form.size (Some sizes.0)) bytes in
      let behind_u = drop (plane_byte_count form.size sizes.1.0) behind_y in
      record {
        y = table_in bytes sizes.0;
        u = option_map (table_in behind_y) sizes.1.0;
        v = option_map (table_in behind_u) sizes.1.1;
      }

  -- The number of bytes is that of all planes of the frame.
  abbrev pub FillsFrame : Frame T → List ℕ → Type 0
  FillsFrame frame bytes = length bytes ≡ byte_count form.size (sizes_of (tables_of frame))
