-- Sizes between which a picture can be resized. The intermediate counts must fit into 64 bits.
use Rattle.std.specs.Prelude.{◌*◌, ◌^◌, Bool, ◌&&◌, nat_le, nat_lt}
use Rattle.v_frame_slices.specs.declared.layout.Rows.{Rows}

-- The sizes for the box filter: the units of a row and of a column, and the pixels of the source.
abbrev pub have_areas : Rows → Rows → Bool
have_areas target source =
    nat_lt (source.width * target.width) (2 ^ 64)
    && (nat_lt (source.height * target.height) (2 ^ 64)
    && nat_le (source.width * source.height) (2 ^ 48))

-- The sizes for nearest neighbor: the units of a row and of a column.
abbrev pub is_counted : Rows → Bool
is_counted rows = nat_lt rows.width (2 ^ 62) && nat_lt rows.height (2 ^ 62)
