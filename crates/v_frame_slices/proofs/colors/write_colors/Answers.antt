-- The bytes of a color in each order.
use Rattle.std.proofs.Common.{◌≡◌, arith}
use Rattle.v_frame_slices.proofs.colors.write_colors.Goals as goal

pub returns-in-0-clause-table : goal.returns-in-0-clause-table
returns-in-0-clause-table c = rw c.in-0.is c.yuv444_to_rgb.ensures.table

pub returns-in-1-clause-table : goal.returns-in-1-clause-table
returns-in-1-clause-table c = rw c.in-1.is c.yuv444_to_rgb-in-1.ensures.table

pub returns-in-2-clause-table : goal.returns-in-2-clause-table
returns-in-2-clause-table c = rw c.in-2.is c.yuv444_to_rgb-in-2.ensures.table

pub returns-in_default-clause-table : goal.returns-in_default-clause-table
returns-in_default-clause-table c =
    let last : c.args.order ≡ 3 = omega arith in
    rw last c.yuv444_to_rgb-in_default.ensures.table
