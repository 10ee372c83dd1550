-- Rows in a buffer as C lays them out, and results as C reads them.
use Rattle.std.specs.Prelude.{ℕ, ◌+◌, ◌-◌, ◌*◌, ◌^◌, List, Bool, ◌&&◌, nat_lt, nat_le}
use Rattle.v_frame.specs.Prelude.{Geometry, Table, alloc_size_of, geometry_of, isize_max, strided_rows}
use Rattle.v_frame_slices.specs.declared.layout.Bordered.{Bordered}
use Rattle.v_frame_slices.specs.declared.layout.Place.{Place}
use Rattle.v_frame_slices.specs.declared.layout.Rows.{Rows}
use Rattle.v_frame_slices.specs.declared.layout.Sum.{Sum}

-- Whether rows are not empty, do not overlap, and end within the given number of entries.
abbrev pub fits : Rows → ℕ → Bool
fits rows entries =
    nat_lt 0 rows.width && (nat_lt 0 rows.height && (nat_le rows.width rows.stride
    && nat_le (rows.stride * (rows.height - 1) + rows.width) entries))

-- The table of these rows.
abbrev pub picture : {T : Type 0} → Rows → List T → Table T
picture rows buffer = strided_rows rows.width rows.height rows.stride buffer

-- A number of 128 bits in two halves.
abbrev pub number_of : Sum → ℕ
number_of sum = sum.low + 2 ^ 64 * sum.high

-- The result for two pictures without a difference.
abbrev pub nowhere : Place
nowhere = record { x = 0; y = 0; found = 0 }

-- The geometry of a picture with a border.
abbrev pub geometry_in : Bordered → Geometry
geometry_in b = geometry_of b.width b.height b.pad_left b.pad_right b.pad_top b.pad_bottom 1 1

-- Whether the picture is not empty, and ends with its border within the given number of entries and
-- within half of the address space.
abbrev pub is_bordered : Bordered → ℕ → Bool
is_bordered b entries =
    nat_lt 0 b.width && (nat_lt 0 b.height && (nat_le (2 * alloc_size_of (geometry_in b)) isize_max
    && nat_le (alloc_size_of (geometry_in b)) entries))
