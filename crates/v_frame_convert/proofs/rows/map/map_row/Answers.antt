-- Each pixel is set to a result of the closure for the pixel that was read.
use Rattle.std.proofs.Common.{sym, ◌∙◌, subst, arith}
use Rattle.std.proofs.lemmas.Option.{slice_get_read, slice_get_within, same_Some}
use Rattle.v_frame_convert.proofs.Made.{GivenAt, none_made, one_more_made, all_given}
use Rattle.v_frame_convert.proofs.rows.map.map_row.Goals as goal

pub loop-x-init : goal.loop-x-init
loop-x-init g c = none_made _ c.args.row.now

pub loop-x-preserved : goal.loop-x-preserved
loop-x-preserved g c =
    let read = slice_get_read c.args.source.now _ c.loop-x.x _ (sym c.requires.wide) c.loop-x-test.true
    c.index-source-x.is in
    one_more_made (GivenAt (goal.F-post g c.args.change.now) c.args.source.now) c.loop-x.row c.loop-x.x
    c.change.result c.loop-x.invariant (omega arith) (λ p is.
    subst (λ r. goal.F-post g c.args.change.now r c.change.result) (same_Some _ _ (sym read ∙ is)) c.change.ensures)

pub returns : goal.returns
returns g c = all_given _ _ _ c.loop-x.x c.loop-x.invariant (omega arith) (λ k p is.
    let within = slice_get_within c.args.source.now k p is in omega arith)
