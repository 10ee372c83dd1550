-- Each pixel is set to a result of the closure for the pixels that were read at this index.
use Rattle.std.proofs.Common.{sym}
use Rattle.std.proofs.lemmas.Option.{slice_get_read}
use Rattle.v_frame_ops.proofs.Changed.{none_changed, one_more_set, all_changed}
use Rattle.v_frame_ops.proofs.rows.change.map_row.Goals as goal

pub loop-x-init : goal.loop-x-init
loop-x-init g c = none_changed _ c.args.row.now

pub loop-x-preserved : goal.loop-x-preserved
loop-x-preserved g c =
    let read = slice_get_read c.loop-x.row _ c.loop-x.x _ (sym c.loop-x.auto.row) c.loop-x-test.true c.index-row-x.is in
    one_more_set _ c.args.row.now c.loop-x.row c.loop-x.x _ c.change.result c.loop-x.invariant read c.change.ensures

pub returns : goal.returns
returns g c = record {
  count = c.loop-x.invariant.count;
  at = all_changed _ c.args.row.now c.loop-x.row c.loop-x.x c.loop-x.invariant c.loop-x-test.false;
}
