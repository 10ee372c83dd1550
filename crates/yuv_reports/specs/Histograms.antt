-- A histogram as comma-separated values.
use Rattle.std.specs.Prelude.{ℕ, ◌+◌, ◌∷◌, ◌++◌, ◌==◌, [], List, if◌then◌else◌, codes, decimal}
use Rattle.v_frame_formats.specs.Prelude.{letter_of}
use Rattle.v_frame_formats.specs.declared.component.Component.{Component}

-- The row of a value and its count, or no row if the count is 0.
abbrev pub histogram_row : Component → ℕ → ℕ → List ℕ
histogram_row plane value count =
    if count == 0 then []
    else letter_of plane
    ++ (codes "," ++ (decimal value ++ (codes "," ++ (decimal count ++ (10 ∷ [])))))

-- The rows of a plane. The list has the counts of its values, from `value` on.
abbrev pub histogram_rows : Component → ℕ → List ℕ → List ℕ
histogram_rows plane value [] = []
histogram_rows plane value (count ∷ counts) =
    histogram_row plane value count ++ histogram_rows plane (value + 1) counts
