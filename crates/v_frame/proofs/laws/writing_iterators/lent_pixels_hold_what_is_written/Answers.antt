-- A table into which nothing is written is unchanged. Together with its border, it determines the plane.
use Rattle.v_frame.proofs.Unwritten.{pixels_kept}
use Rattle.v_frame.proofs.laws.writing_iterators.lent_pixels_hold_what_is_written.Goals as goal

pub returns-clause-kept : goal.returns-clause-kept
returns-clause-kept g c =
    let before = c.data-before in
    let after = c.data-after in
    let writes = c.write_pixels in
    pixels_kept c.args.plane.now writes.new.plane _ _ before.ensures.value after.ensures.value before.ensures.whole
    after.ensures.whole writes.ensures.border c.args.draws.now writes.ensures.table
