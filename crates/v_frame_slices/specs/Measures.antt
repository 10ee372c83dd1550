-- Measures of two pictures: their statuses, and the place as C reads it.
use Rattle.std.specs.Prelude.{ℕ, zero, suc, Bool, true, false, ◌&&◌, nat_le}
use Rattle.v_frame.specs.Prelude.{Table}
use Rattle.v_frame_slices.specs.declared.layout.Rows.{Rows}
use Rattle.v_frame_slices.specs.declared.measures.Greatest.{Greatest}
use Rattle.v_frame_measures.specs.Prelude.{IsGreatestDifference}

-- Whether a window of 8x8 pixels fits.
abbrev pub has_window : Rows → Bool
has_window rows = nat_le 8 rows.width && nat_le 8 rows.height

-- The status of the earlier tests if one of them failed, and otherwise the status of whether a
-- window fits.
abbrev pub status_of_windows : ℕ → Bool → ℕ
status_of_windows zero true = 0
status_of_windows zero false = 8
status_of_windows (suc others) room = suc others

-- No difference of two values is greater than the one at the given place, which is the first, in
-- the order of rows, with this difference.
abbrev pub IsGreatest : {T : Type 0} → (T → ℕ) → Table T → Table T → Greatest → Type 0
IsGreatest value a b found =
    IsGreatestDifference value a b
    (record { difference = found.difference; x = found.x; y = found.y })
