-- Crops of frames, at full or half size.
use Rattle.std.specs.Prelude.{ℕ, ◌≡◌, ◌+◌, ◌/◌, ◌<◌, ◌≤◌, if◌then◌else◌, ⊤, Bool, Option, Some, None, option_map}
use Rattle.std.specs.Int.{div_ceil}
use Rattle.v_frame.specs.Prelude.{PixelForm, Table, Tables, rectangle}
use Rattle.v_frame_convert.specs.Prelude.{scaled}
use Rattle.v_frame_convert.specs.declared.scale.Scale.TheVariants.{Half}
use Rattle.v_frame_streams.specs.Pictures.{Sizes}
use Rattle.v_frame_formats.specs.declared.rectangle.Rectangle.{Rectangle}
use Rattle.v_frame_streams.specs.declared.edit.Edit.{Edit}

-- The chroma pixels of a rectangle of luma, including those of which only a part belongs to it.
abbrev pub beside : ℕ × ℕ → Rectangle → Rectangle
beside ratio part =
    record {
      x = part.x / ratio.0;
      y = part.y / ratio.1;
      width = div_ceil part.width ratio.0;
      height = div_ceil part.height ratio.1;
    }

-- The number of columns or rows: half of it, rounded up, if `half` is set.
abbrev pub halved_size : Bool → ℕ → ℕ
halved_size half size = if half then (size + 1) / 2 else size

-- The rectangle is not empty and lies inside a plane of size `source`. Cropped, and halved if
-- `half` is set, it has the size `target`.
pub record PlaneFits (half : Bool) (part : Rectangle) (source target : ℕ × ℕ) : Type 0 where
  pub some : (0 < part.width) × (0 < part.height)
  pub across : part.x + part.width ≤ source.0
  pub down : part.y + part.height ≤ source.1
  pub wide : target.0 ≡ halved_size half part.width
  pub high : target.1 ≡ halved_size half part.height

-- The rectangle fits the sizes of two chroma planes. Both are present or both absent.
abbrev pub ChromaFits : Bool → Rectangle → Option (ℕ × ℕ) → Option (ℕ × ℕ) → Type 0
ChromaFits half part (Some source) (Some target) = PlaneFits half part source target
ChromaFits half part None None = ⊤
ChromaFits half part _ _ = ⊥

-- The edit fits the sizes of all planes of two frames.
pub record EditFits (edit : Edit) (source target : Sizes) : Type 0 where
  pub y : PlaneFits edit.half edit.luma source.0 target.0
  pub u : ChromaFits edit.half edit.chroma source.1.0 target.1.0
  pub v : ChromaFits edit.half edit.chroma source.1.1 target.1.1

module _ {T : Type 0} (form : PixelForm T) where
  -- A table at half the size, rounded up. Each pixel is the mean of two by two pixels, rounded to
  -- the nearest integer, halves upwards. If the width or the height is odd, the last column or row
  -- is repeated.
  abbrev pub halved_table : ℕ → ℕ → Table T → Table T
  halved_table width height rows =
      scaled form form.pixel_of Half Half ((width + 1) / 2) ((height + 1) / 2) rows

  -- The edited table of a plane.
  abbrev pub edited_table : Bool → Rectangle → Table T → Table T
  edited_table half part rows =
      let taken = rectangle part.x part.y part.width part.height rows in
      if half then halved_table part.width part.height taken else taken

  -- The edited tables of a frame.
  abbrev pub edited : Edit → Tables T → Tables T
  edited edit tables =
      record {
        y = edited_table edit.half edit.luma tables.y;
        u = option_map (edited_table edit.half edit.chroma) tables.u;
        v = option_map (edited_table edit.half edit.chroma) tables.v;
      }
