-- The result of a copy into a plane, and the table after the copy.
use Rattle.std.specs.Prelude.{ℕ, ◌≡◌, ◌*◌, nat_lt, ◌==◌, if◌then◌else◌, min, List, length, Result, Ok, Err, OnErr, OnOk}
use Rattle.v_frame_raster.specs.Geometry.{usize_max}
use Rattle.v_frame_raster.specs.Pixel.{PixelForm, byte_list}
use Rattle.v_frame_raster.specs.Raster.{Raster, table_of, border_of}
use Rattle.v_frame_raster.specs.StridedRows.{strided_table}
use Rattle.v_frame_raster.specs.Table.{Table, width_of, height_of, cut_rows}
use Rattle.v_frame_plane.specs.declared.error.CopyError.{CopyError}
use Rattle.v_frame_plane.specs.declared.error.CopyError.TheVariants.{DataLength, InvalidStride}

-- The result of a copy, and the table after the copy.
pub record CopyOutcome (T : Type 0) : Type 0 where
  pub answer : Result (Unit {0}) CopyError
  pub table : Table T

module _ {T : Type 0} where
  -- A copy of the pixels of a source into a table. The source must have as many pixels as the
  -- table.
  abbrev pub packed_copy : Table T → List T → CopyOutcome T
  packed_copy table source =
      let pixels : ℕ = width_of table * height_of table in
      if length source == pixels
      then record { answer = Ok tt; table = cut_rows (width_of table) (height_of table) source }
      else record { answer = Err (DataLength pixels (length source)); table = table }

module _ {T : Type 0} (form : PixelForm T) where
  -- A copy of the bytes of a source with a stride into a table. The stride must be at least the
  -- size of a row in bytes, and the source must have a whole stride for each row, including the
  -- last one.
  abbrev pub strided_copy : Table T → List ℕ → ℕ → CopyOutcome T
  strided_copy table source stride =
      let width : ℕ = width_of table in
      let height : ℕ = height_of table in
      if nat_lt stride (width * form.size)
      then record { answer = Err (InvalidStride stride width); table = table }
      else (if length source == stride * height
      then record { answer = Ok tt; table = strided_table form width height stride source }
      else record {
        answer = Err (DataLength (min (stride * height) usize_max) (length source));
        table = table;
      })

  -- A copy of packed bytes into a table. The stride is the size of a row in bytes.
  abbrev pub packed_byte_copy : Table T → List ℕ → CopyOutcome T
  packed_byte_copy table source = strided_copy table source (width_of table * form.size)

-- A copy into a plane has the result and the table of this outcome. The border and the geometry are
-- unchanged. After an error, the whole plane is unchanged.
pub record Copies {T : Type 0} (old new : Raster T) (result : Result (Unit {0}) CopyError)
    (outcome : CopyOutcome T) : Type 0 where
  pub answer : result ≡ outcome.answer
  pub table : table_of new ≡ outcome.table
  pub border : border_of new ≡ border_of old
  pub geometry : new.geometry ≡ old.geometry
  pub refused : OnErr result (new ≡ old)

-- After a successful copy, the bytes of the table are these bytes.
abbrev pub ComesBack : {T : Type 0} → PixelForm T → List ℕ → CopyOutcome T → Type 0
ComesBack form bytes copy = OnOk copy.answer (byte_list form copy.table ≡ bytes)
