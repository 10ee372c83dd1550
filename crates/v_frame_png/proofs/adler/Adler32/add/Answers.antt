-- Sums that were reduced are congruent to the sums before.
use Rattle.std.proofs.Common.{◌∙◌, take-append-drop}
use Rattle.v_frame_png.proofs.AdlerSteps.{reduced_more}
use Rattle.v_frame_png.proofs.adler.Adler32.add.Goals as goal

pub loop-ahead-preserved : goal.loop-ahead-preserved
loop-ahead-preserved c =
    let old = c.loop-ahead.self in
    let new = c.add_few.new.self in
    let first = c.split_at.result.0.now in
    let others = c.split_at.result.1.now in
    let whole = take-append-drop 5552 c.loop-ahead.ahead.now in
    reduced_more first others (old.first, old.second) (new.first, new.second) c.add_few.ensures
    ∙ rw (c.split_at.ensures.front, c.split_at.ensures.back, whole) c.loop-ahead.invariant
