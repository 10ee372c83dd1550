-- All rows have the same width.
use Rattle.v_frame_statistics.proofs.SumSteps.{pixels_of_rows}
use Rattle.v_frame_statistics.proofs.rows.sums.pixel_count.Goals as goal

pub returns-clause-value : goal.returns-clause-value
returns-clause-value g c =
    rw (pixels_of_rows c.width.result c.args.rows.now c.width.ensures.rows, c.height.ensures.value)
