-- A short part is filled as a slice of the row.
use Rattle.v_frame_raster.proofs.tables.Parts.{part_before, part_filled, part_behind}
use Rattle.v_frame_ops.proofs.border.fill_part.Goals as goal

pub returns-then-end-start-lt16-clause-before : goal.returns-then-end-start-lt16-clause-before
returns-then-end-start-lt16-clause-before g c =
    part_before c.args.row.now c.fill_row.new.row c.args.start c.args.end c.requires.order c.requires.within
    c.fill_row.auto.row

pub returns-then-end-start-lt16-clause-inside : goal.returns-then-end-start-lt16-clause-inside
returns-then-end-start-lt16-clause-inside g c =
    part_filled c.args.row.now c.fill_row.new.row c.args.start c.args.end c.requires.order c.requires.within
    c.fill_row.auto.row
    c.args.pixel c.fill_row.ensures

pub returns-then-end-start-lt16-clause-behind : goal.returns-then-end-start-lt16-clause-behind
returns-then-end-start-lt16-clause-behind g c =
    part_behind c.args.row.now c.fill_row.new.row c.args.start c.args.end c.requires.order c.requires.within
    c.fill_row.auto.row
