-- Numbers that C passes for a choice, and whether they are valid.
use Rattle.std.specs.Prelude.{ℕ, ◌+◌, ◌-◌, ◌*◌, ◌/◌, ◌==◌, Bool, true, false, ◌&&◌, if◌then◌else◌, nat_eq, nat_le, nat_lt}
use Rattle.v_frame_slices.specs.declared.layout.Rows.{Rows}
use Rattle.v_frame_slices.specs.Status.{same_size}
use Rattle.v_frame_convert.specs.Prelude.{in_full_range, in_limited_range}
use Rattle.v_frame_convert.specs.declared.range.Component.{Component}
use Rattle.v_frame_convert.specs.declared.range.Component.TheVariants.{Luma, Chroma}
use Rattle.v_frame_turn.specs.Prelude.{exchanges}
use Rattle.v_frame_turn.specs.declared.turns.Turn.{Turn as TheTurn}
use Rattle.v_frame_turn.specs.declared.turns.Turn.TheVariants.{FlipVertical, FlipHorizontal, Rotate180}
use Rattle.v_frame_turn.specs.declared.turns.Turn.TheVariants.{Transpose, Rotate90, Rotate270}

-- Whether the number is one of these: upside down, mirrored, rotated by 180 degrees, transposed,
-- rotated by 90 degrees and by 270 degrees clockwise.
abbrev pub is_turn : ℕ → Bool
is_turn number = nat_lt number 6

abbrev pub turn_by : ℕ → TheTurn
turn_by number =
    if number == 0 then FlipVertical
    else (if number == 1 then FlipHorizontal
    else (if number == 2 then Rotate180
    else (if number == 3 then Transpose
    else (if number == 4 then Rotate90 else Rotate270))))

abbrev pub turned_size : TheTurn → Rows → Rows → Bool
turned_size turn a b =
    if exchanges turn then nat_eq a.width b.height && nat_eq a.height b.width else same_size a b

-- Whether pixels of the given number of bytes can have this bit depth.
abbrev pub is_depth : ℕ → ℕ → Bool
is_depth bytes depth = nat_le 8 depth && nat_le depth (8 * bytes)

-- Whether `items` is the number of columns or rows divided by the ratio, rounded up.
abbrev pub is_begun : ℕ → ℕ → ℕ → Bool
is_begun size ratio items = nat_eq items ((size + (ratio - 1)) / ratio)

abbrev pub subsampled_size : ℕ → ℕ → Rows → Rows → Bool
subsampled_size ratio_x ratio_y a b =
    is_begun a.width ratio_x b.width && is_begun a.height ratio_y b.height

-- Whether the number is one of these: luma, and a chroma component.
abbrev pub is_component : ℕ → Bool
is_component number = nat_lt number 2

abbrev pub component_by : ℕ → Component
component_by number = if number == 0 then Luma else Chroma

-- A value converted to full range, or to limited range.
abbrev pub change_by : Bool → Component → ℕ → ℕ → ℕ
change_by true = in_full_range
change_by false = in_limited_range
