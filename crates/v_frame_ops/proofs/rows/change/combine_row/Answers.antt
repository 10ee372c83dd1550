-- Each pixel is set to a result of the closure for the pixels that were read at this index.
use Rattle.std.proofs.Common.{sym, subst}
use Rattle.std.proofs.lemmas.Option.{slice_get_read}
use Rattle.v_frame_ops.proofs.Changed.{GivenWith, same_item, none_changed, one_more_set, all_changed}
use Rattle.v_frame_ops.proofs.rows.change.combine_row.Goals as goal

pub loop-x-init : goal.loop-x-init
loop-x-init g c = none_changed _ c.args.row.now

pub loop-x-preserved : goal.loop-x-preserved
loop-x-preserved g c =
    let read = slice_get_read c.loop-x.row _ c.loop-x.x _ (sym c.loop-x.auto.row) c.loop-x-test.true c.index-row-x.is in
    let beside = slice_get_read c.args.other.now _ c.loop-x.x _ (sym c.requires.wide) c.loop-x-test.true
    c.index-other-x.is in
    let gives = goal.F-post g c.args.combine.now in
    one_more_set (GivenWith gives c.args.other.now) c.args.row.now c.loop-x.row c.loop-x.x _ c.combine.result
    c.loop-x.invariant read (λ q h.
    let same = same_item c.args.other.now c.loop-x.x c.index-other-x.result q beside h in
    subst (λ p. gives c.index-row-x.result p c.combine.result) same c.combine.ensures)

pub returns : goal.returns
returns g c = record {
  count = c.loop-x.invariant.count;
  as_many = c.requires.wide;
  at = λ k p q h i. let r = all_changed _ c.args.row.now c.loop-x.row c.loop-x.x c.loop-x.invariant c.loop-x-test.false
      k p h in (r.0, r.1 q i, r.2);
}
