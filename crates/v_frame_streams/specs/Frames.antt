-- The comparison of two frames, plane by plane.
use Rattle.std.specs.Prelude.{ℕ, ◌≡◌, Option, Some, None, option_map}
use Rattle.v_frame.specs.Prelude.{Table, Tables, pixel_at, row_major, squared_errors}
use Rattle.v_frame_ops.specs.Prelude.{IsFirstDifference}
use Rattle.v_frame_formats.specs.declared.component.Component.{Component}
use Rattle.v_frame_formats.specs.declared.component.Component.TheVariants.{Y, U, V}
use Rattle.v_frame_formats.specs.declared.difference.PixelDifference.{PixelDifference}

module _ {T : Type 0} (value : T → ℕ) where
  -- The sum of the squared errors of two planes.
  abbrev pub plane_errors : Table T → Table T → ℕ
  plane_errors a b = squared_errors value (row_major a) (row_major b)

  -- The sum of the squared errors of two chroma planes, if both are present.
  abbrev pub chroma_errors : Option (Table T) → Option (Table T) → Option ℕ
  chroma_errors (Some a) (Some b) = Some (plane_errors a b)
  chroma_errors _ _ = None

  -- The position is the first one, row by row, at which two planes differ, and the values are those
  -- of the two pixels.
  pub record DiffersFirst (a b : Table T) (found : PixelDifference) : Type 0 where
    pub place : IsFirstDifference a b found.x found.y
    pub first : option_map value (pixel_at a found.x found.y) ≡ Some found.first
    pub second : option_map value (pixel_at b found.x found.y) ≡ Some found.second

  -- Two chroma planes are present and differ first at `found`.
  abbrev pub ChromaDiffersFirst : Option (Table T) → Option (Table T) → PixelDifference → Type 0
  ChromaDiffersFirst (Some a) (Some b) found = DiffersFirst a b found
  ChromaDiffersFirst _ _ found = ⊥

  -- The component is the first one in which two frames differ, and its planes differ first at
  -- `found`.
  abbrev pub DiffersFirstIn : Component → Tables T → Tables T → PixelDifference → Type 0
  DiffersFirstIn Y a b found = DiffersFirst a.y b.y found
  DiffersFirstIn U a b found = (a.y ≡ b.y) × ChromaDiffersFirst a.u b.u found
  DiffersFirstIn V a b found = (a.y ≡ b.y) × (a.u ≡ b.u) × ChromaDiffersFirst a.v b.v found

  abbrev pub FramesDifferFirst : Tables T → Tables T → PixelDifference → Type 0
  FramesDifferFirst a b found = DiffersFirstIn found.component a b found
