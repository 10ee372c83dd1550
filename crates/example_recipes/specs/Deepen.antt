-- Frames of 8 bits, rotated clockwise by 90 degrees and converted to 10 bits.
use Rattle.std.specs.Prelude.{ℕ, ◌≡◌, ◌*◌, [], ◌∷◌, false, refl}
use Rattle.v_frame.specs.Prelude.{Frame, Table, Tables}
use Rattle.v_frame_convert.specs.Prelude.{converted}
use Rattle.v_frame_turn.specs.Frames.{BothFit}
use Rattle.v_frame_turn.specs.Prelude.{rotated_90, turned_tables, IsReason, PlaneFits}
use Rattle.v_frame_turn.specs.declared.turns.Turn.TheVariants.{Rotate90}
use Rattle.example_recipes.specs.declared.deepen.DeepenError.{DeepenError}
use Rattle.example_recipes.specs.declared.deepen.DeepenError.TheVariants.{Turn, DifferentSize}

-- A picture of 8 bits, converted to 10 bits: each value is multiplied by 4.
abbrev pub deepened : Table ℕ → Table ℕ
deepened rows = converted (converted (λ value. value * 4)) rows

white_is_shifted : deepened ((16 ∷ 235 ∷ []) ∷ []) ≡ (64 ∷ 940 ∷ []) ∷ []
white_is_shifted = refl

-- Each picture of a frame, rotated and then converted to 10 bits.
abbrev pub turned_and_deepened : Tables ℕ → Tables ℕ
turned_and_deepened tables = turned_tables deepened (turned_tables rotated_90 tables)

-- The two frames have the same planes, and the planes have the same sizes in both.
pub record HaveOneSize (source target : Frame ℕ) : Type 0 where
  pub y_plane : PlaneFits false source.y_plane target.y_plane
  pub u_plane : BothFit false source.u_plane target.u_plane
  pub v_plane : BothFit false source.v_plane target.v_plane

-- The error is justified: either the source cannot be rotated into the intermediate frame, or the
-- rotated frame and the target have different sizes.
abbrev pub IsRefusal : Frame ℕ → Frame ℕ → Frame ℕ → Frame ℕ → DeepenError → Type 0
IsRefusal source between turned target (Turn error) = IsReason Rotate90 source between error
IsRefusal source between turned target DifferentSize = ¬ HaveOneSize turned target
