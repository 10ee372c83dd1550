-- Frames with interleaved chroma, as in NV12, NV16, NV24 and P016.
use Rattle.std.specs.Prelude.{ℕ, ◌==◌, Bool, ◌&&◌, if◌then◌else◌, nat_le}
use Rattle.v_frame_slices.specs.Numbers.{subsampled_size}
use Rattle.v_frame_slices.specs.Status.{encoded_size, same_size}
use Rattle.v_frame_slices.specs.declared.layout.Rows.{Rows}

-- Whether the format is 4:2:0, 4:2:2 or 4:4:4.
abbrev pub is_semi_planar : ℕ → Bool
is_semi_planar format = nat_le 1 format && nat_le format 3

abbrev pub columns_by : ℕ → ℕ
columns_by format = if format == 3 then 1 else 2

abbrev pub rows_by : ℕ → ℕ
rows_by format = if format == 1 then 2 else 1

-- Whether the luma planes have the same size, chroma covers luma, and the two chroma components are
-- as large as the interleaved plane requires.
abbrev pub have_layout : ℕ → Rows → Rows → Rows → Rows → Rows → Bool
have_layout format y other_y uv u v =
    same_size y other_y && (subsampled_size (columns_by format) (rows_by format) y u
    && (same_size u v && encoded_size 2 u uv))
