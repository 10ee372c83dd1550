-- The differences of two frames: as a table of amplified differences, and as numbers for each
-- plane.
use Rattle.std.specs.Prelude.{ℕ, ◌≡◌, ◌↔◌, nat_lt, IfSome, IsNone, Option, Some, None}
use Rattle.std.specs.Int.{abs_diff}
use Rattle.std.specs.Int.NonZero.{non_zero_u8_get}
use Rattle.v_frame.specs.Prelude.{Frame, PixelForm, Table, Tables, row_major, table_of}
use Rattle.v_frame_measures.specs.Prelude.{IsGreatestDifference}
use Rattle.v_frame_ops.specs.Prelude.{combined, difference_of, IsFirstDifference}
use Rattle.v_frame_statistics.specs.Prelude.{passing_pairs}
use Rattle.yuv_pictures.specs.Gray.{gray_rows}
use Rattle.yuv_pictures.specs.declared.places.Found.{Found}
use Rattle.yuv_pictures.specs.declared.places.PlaneDifference.{PlaneDifference}

module _ {T : Type 0} (form : PixelForm T) where
  -- The bytes of the rows of the differences of luma, each multiplied by a gain.
  abbrev pub difference_rows : Frame T → Frame T → ℕ → Table ℕ
  difference_rows first second gain =
      let depth = non_zero_u8_get first.bit_depth in
      gray_rows form depth
      (combined (combined (difference_of form gain depth)) (table_of first.y_plane)
      (table_of second.y_plane))

  -- The numbers `found` describe the differences of two tables of the same size.
  pub record IsPlaneDifference (a b : Table T) (found : PlaneDifference) : Type 0 where
    pub count : found.count
        ≡ passing_pairs (λ p q. nat_lt 0 (abs_diff (form.value p) (form.value q)))
        (row_major a) (row_major b)
    pub same : IsNone found.first ↔ (a ≡ b)
    pub first : IfSome found.first (λ place. IsFirstDifference a b place.0 place.1)
    pub greatest : IsGreatestDifference form.value a b found.greatest

  -- The numbers describe the differences of two chroma planes, if both exist.
  abbrev pub IsChromaDifference : Option (Table T) → Option (Table T) → Option PlaneDifference
      → Type 0
  IsChromaDifference (Some a) (Some b) (Some found) = IsPlaneDifference a b found
  IsChromaDifference (Some a) (Some b) None = ⊥
  IsChromaDifference (Some a) None found = found ≡ None
  IsChromaDifference None b found = found ≡ None

  -- The numbers describe the differences of the planes of two frames.
  pub record AreDifferences (a b : Tables T) (found : Found) : Type 0 where
    pub y : IsPlaneDifference a.y b.y found.y
    pub u : IsChromaDifference a.u b.u found.u
    pub v : IsChromaDifference a.v b.v found.v
