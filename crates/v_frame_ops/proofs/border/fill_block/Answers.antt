-- The 16 pixels are a slice of the row.
use Rattle.std.proofs.Common.{◌+◌, arith}
use Rattle.v_frame_raster.proofs.tables.Parts.{part_before, part_filled, part_behind}
use Rattle.v_frame_ops.proofs.border.fill_block.Goals as goal

pub returns-clause-before : goal.returns-clause-before
returns-clause-before g c =
    part_before c.args.row.now c.fill_sixteen.new.pixels c.args.start (c.args.start + 16) (omega arith) c.requires
    c.fill_sixteen.auto.pixels

pub returns-clause-inside : goal.returns-clause-inside
returns-clause-inside g c =
    part_filled c.args.row.now c.fill_sixteen.new.pixels c.args.start (c.args.start + 16) (omega arith) c.requires
    c.fill_sixteen.auto.pixels
    c.args.pixel c.fill_sixteen.ensures

pub returns-clause-behind : goal.returns-clause-behind
returns-clause-behind g c =
    part_behind c.args.row.now c.fill_sixteen.new.pixels c.args.start (c.args.start + 16) (omega arith) c.requires
    c.fill_sixteen.auto.pixels
