-- The steps from each frame of a stream to the output.
use Rattle.std.specs.Prelude.{ℕ, ⊤, List, Option, Some, None, option_map}
use Rattle.v_frame.specs.Prelude.{Frame, PixelForm, Tables, tables_of}
use Rattle.v_frame_planar.specs.Planar.{planar_bytes, sizes_of}
use Rattle.v_frame_semi_planar.specs.SemiPlanar.{semi_planar_bytes}
use Rattle.v_frame_semi_planar.specs.declared.format.SemiPlanarFormat.{SemiPlanarFormat}
use Rattle.v_frame_streams.specs.Conversions.{format_of, in_format, Format, FormatsFit, LayoutFits}
use Rattle.v_frame_streams.specs.Edits.{edited, EditFits}
use Rattle.v_frame_streams.specs.Pictures.{Sizes}
use Rattle.v_frame_streams.specs.declared.edit.Edit.{Edit}
use Rattle.v_frame_streams.specs.declared.maker.Maker.{Maker}

-- The edit of each frame, the format of the source, the sizes of the edited planes, the format and
-- the sizes of the output if its format differs, and the semi-planar layout of the output if it has
-- one.
pub record Plan : Type 0 where
  pub edit : Edit
  pub from : Format
  pub made : Sizes
  pub to : Option (Format × Sizes)
  pub layout : Option SemiPlanarFormat

-- The bytes of a frame in a semi-planar layout, or planar without one.
abbrev pub bytes_in_layout : {T : Type 0} → PixelForm T → Option SemiPlanarFormat → Tables T
    → List ℕ
bytes_in_layout form None tables = planar_bytes form tables
bytes_in_layout form (Some layout) tables = semi_planar_bytes form layout tables

module _ {S T : Type 0} (form : PixelForm S) (other : PixelForm T) where
  abbrev pub bytes_in_format : Option SemiPlanarFormat → Format → Option (Format × Sizes)
      → Tables S → List ℕ
  bytes_in_format layout from None tables = bytes_in_layout form layout tables
  bytes_in_format layout from (Some target) tables =
      bytes_in_layout other layout (in_format form other from target.0 target.1 tables)

  -- The bytes that are written for a frame.
  abbrev pub planned_bytes : Plan → Tables S → List ℕ
  planned_bytes plan tables =
      bytes_in_format plan.layout plan.from plan.to (edited form plan.edit tables)

  -- The bytes of the frame that was edited last.
  abbrev pub bytes_made : Option SemiPlanarFormat → Frame S → Option (Frame T) → List ℕ
  bytes_made layout made None = bytes_in_layout form layout (tables_of made)
  bytes_made layout made (Some frame) = bytes_in_layout other layout (tables_of frame)

-- The format of a frame and the sizes of its planes.
abbrev pub shape_of : {T : Type 0} → Frame T → Format × Sizes
shape_of frame = (format_of frame, sizes_of (tables_of frame))

module _ {S T : Type 0} where
  abbrev pub plan_of : Maker S T → Plan
  plan_of maker =
      record {
        edit = maker.edit;
        from = format_of maker.made;
        made = sizes_of (tables_of maker.made);
        to = option_map shape_of maker.converted;
        layout = maker.layout;
      }

abbrev pub CanConvert : ℕ → ℕ → Format → Sizes → Option (Format × Sizes) → Type 0
CanConvert bytes other from made None = ⊤
CanConvert bytes other from made (Some target) = FormatsFit bytes other from target.0 made target.1

-- Frames with this format and these sizes, whose pixels have `bytes` bytes, can be written in a
-- layout, or as planar frames without one.
abbrev pub FitsLayout : ℕ → Option SemiPlanarFormat → Format × Sizes → Type 0
FitsLayout bytes None shape = ⊤
FitsLayout bytes (Some layout) shape = LayoutFits bytes layout shape.0 shape.1

abbrev pub CanLayOut : ℕ → ℕ → Option SemiPlanarFormat → Format × Sizes → Option (Format × Sizes)
    → Type 0
CanLayOut bytes other layout made None = FitsLayout bytes layout made
CanLayOut bytes other layout made (Some target) = FitsLayout other layout target

-- Frames whose planes have these sizes can be edited, converted and written as planned. The pixels
-- of the source have `bytes` bytes, and those of the output `other`.
pub record CanMake (bytes other : ℕ) (plan : Plan) (sizes : Sizes) : Type 0 where
  pub edits : EditFits plan.edit sizes plan.made
  pub converts : CanConvert bytes other plan.from plan.made plan.to
  pub lays_out : CanLayOut bytes other plan.layout (plan.from, plan.made) plan.to
