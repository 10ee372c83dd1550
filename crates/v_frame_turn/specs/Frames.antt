-- Rotated, mirrored and transposed frames: the planes of the result, and the conditions under which
-- one frame can hold the result of another.
use Rattle.std.specs.Prelude.{ℕ, ◌≡◌, ◌≢◌, ◌<◌, ◌==◌, if◌then◌else◌, ⊤, Bool, true, false, map, reverse}
use Rattle.std.specs.Prelude.{Option, Some, None, option_map, Result, Err, IfErr, OnErr, OnOk}
use Rattle.std.specs.Int.NonZero.{non_zero_u8_get}
use Rattle.v_frame.specs.Prelude.{ratio_of, ChromaSubsampling, Frame, Raster, Table, Tables}
use Rattle.v_frame.specs.Prelude.{plane_at, tables_of, KeepsBorders}
use Rattle.v_frame_turn.specs.Turn.{rotated_180, rotated_270, rotated_90, transposed}
use Rattle.v_frame_turn.specs.declared.turns.Turn.{Turn as TheTurn}
use Rattle.v_frame_turn.specs.declared.turns.Turn.TheVariants.{FlipVertical, FlipHorizontal}
use Rattle.v_frame_turn.specs.declared.turns.Turn.TheVariants.{Rotate180}
use Rattle.v_frame_turn.specs.declared.turns.Turn.TheVariants.{Transpose, Rotate90, Rotate270}
use Rattle.v_frame_turn.specs.declared.error.TurnError.{TurnError}
use Rattle.v_frame_turn.specs.declared.error.TurnError.TheVariants.{UnevenSubsampling}
use Rattle.v_frame_turn.specs.declared.error.TurnError.TheVariants.{DifferentSubsampling}
use Rattle.v_frame_turn.specs.declared.error.TurnError.TheVariants.{DifferentBitDepth}
use Rattle.v_frame_turn.specs.declared.error.TurnError.TheVariants.{DifferentSize}

-- Rows become columns, so the width and the height are exchanged.
abbrev pub exchanges : TheTurn → Bool
exchanges FlipVertical = false
exchanges FlipHorizontal = false
exchanges Rotate180 = false
exchanges Transpose = true
exchanges Rotate90 = true
exchanges Rotate270 = true

-- Chroma is subsampled by the same ratio in both directions, or the frame is monochrome.
abbrev pub even_ratio : Option (ℕ × ℕ) → Bool
even_ratio None = true
even_ratio (Some ratio) = ratio.0 == ratio.1

-- A format exists for the transformed chroma. If rows become columns, the two subsampling ratios
-- must be equal.
abbrev pub is_turnable : TheTurn → ChromaSubsampling → Bool
is_turnable turn subsampling =
    if exchanges turn then even_ratio (ratio_of subsampling) else true

-- A size equals another size, or that size with width and height exchanged.
abbrev pub SizeFits : Bool → ℕ → ℕ → ℕ → ℕ → Type 0
SizeFits false width height target_width target_height =
    (width ≡ target_width) × (height ≡ target_height)
SizeFits true width height target_width target_height =
    (height ≡ target_width) × (width ≡ target_height)

module _ {T : Type 0} where
  abbrev pub turned : TheTurn → Table T → Table T
  turned FlipVertical rows = reverse rows
  turned FlipHorizontal rows = map reverse rows
  turned Rotate180 rows = rotated_180 rows
  turned Transpose rows = transposed rows
  turned Rotate90 rows = rotated_90 rows
  turned Rotate270 rows = rotated_270 rows

  -- Each plane of a frame, transformed by `turn`.
  abbrev pub turned_tables : (Table T → Table T) → Tables T → Tables T
  turned_tables turn tables =
      record { y = turn tables.y; u = option_map turn tables.u; v = option_map turn tables.v }

  -- `target` has the size of `source`, or that size with width and height exchanged.
  abbrev pub PlaneFits : Bool → Raster T → Raster T → Type 0
  PlaneFits exchanged source target =
      SizeFits exchanged source.geometry.width source.geometry.height target.geometry.width
      target.geometry.height

  -- Both planes exist and the target has the required size, or both are missing.
  abbrev pub BothFit : Bool → Option (Raster T) → Option (Raster T) → Type 0
  BothFit exchanged (Some source) (Some target) = PlaneFits exchanged source target
  BothFit exchanged None None = ⊤
  BothFit exchanged source target = ⊥

  -- `target` can hold the transformed `source`: a format exists for the transformed chroma, and the
  -- chroma formats, the bit depths and the sizes correspond.
  pub record TurnFits (turn : TheTurn) (source target : Frame T) : Type 0 where
    pub turnable : is_turnable turn source.subsampling ≡ true
    pub subsampling : target.subsampling ≡ source.subsampling
    pub bit_depth : non_zero_u8_get target.bit_depth ≡ non_zero_u8_get source.bit_depth
    pub y_plane : PlaneFits (exchanges turn) source.y_plane target.y_plane
    pub u_plane : BothFit (exchanges turn) source.u_plane target.u_plane
    pub v_plane : BothFit (exchanges turn) source.v_plane target.v_plane

  -- The reason why `target` cannot hold the transformed `source`: the first one that holds, and for
  -- sizes the plane with the smallest index.
  abbrev pub IsReason : TheTurn → Frame T → Frame T → TurnError → Type 0
  IsReason turn source target UnevenSubsampling = is_turnable turn source.subsampling ≡ false
  IsReason turn source target DifferentSubsampling =
      (is_turnable turn source.subsampling ≡ true) × (target.subsampling ≢ source.subsampling)
  IsReason turn source target DifferentBitDepth =
      (is_turnable turn source.subsampling ≡ true) × (target.subsampling ≡ source.subsampling)
      × (non_zero_u8_get target.bit_depth ≢ non_zero_u8_get source.bit_depth)
  IsReason turn source target (DifferentSize plane) =
      (is_turnable turn source.subsampling ≡ true) × (target.subsampling ≡ source.subsampling)
      × (non_zero_u8_get target.bit_depth ≡ non_zero_u8_get source.bit_depth)
      × ((k : ℕ) → k < plane
      → BothFit (exchanges turn) (plane_at source k) (plane_at target k))
      × ¬ BothFit (exchanges turn) (plane_at source plane) (plane_at target plane)

  -- `new` is the target after the call. It holds the transformed `source` if the frames correspond,
  -- and otherwise it is unchanged.
  pub record IsTurned {A : Type 0} (turn : TheTurn) (source old new : Frame T)
      (result : Result A TurnError) : Type 0 where
    pub shown : OnOk result (tables_of new ≡ turned_tables (turned turn) (tables_of source))
    pub accepted : OnOk result (TurnFits turn source old)
    pub refused : IfErr result (IsReason turn source old)
    pub uneven : is_turnable turn source.subsampling ≡ false → result ≡ Err UnevenSubsampling
    pub unchanged : OnErr result (new ≡ old)
    pub borders : KeepsBorders old new
