-- Each pixel is set to the blend of the pixels that were read.
use Rattle.std.proofs.Common.{sym, ap, Some, get_or, ◌∙◌, arith}
use Rattle.std.proofs.lemmas.Option.{slice_get_read, slice_get-get_or}
use Rattle.v_frame_ops.proofs.Changed.{same_item, none_changed, one_more_set, all_changed}
use Rattle.v_frame_ops.proofs.rows.compose.blend_row_with_mask.Goals as goal

pub loop-x-init : goal.loop-x-init
loop-x-init g c = none_changed _ c.args.row.now

pub loop-x-preserved : goal.loop-x-preserved
loop-x-preserved g c =
    let read = slice_get_read c.loop-x.row _ c.loop-x.x _ (sym c.loop-x.auto.row) c.loop-x-test.true c.index-row-x.is in
    let beside = slice_get_read c.args.source.now _ c.loop-x.x _ (sym c.requires.wide) c.loop-x-test.true
    c.index-source-x.is in
    let masked = slice_get-get_or c.args.mask.now c.loop-x.x 0
    (omega (arith, c.requires.mask, c.loop-x.auto.row, c.loop-x-test.true)) in
    one_more_set _ c.args.row.now c.loop-x.row c.loop-x.x _ c.blend_pixel_by_mask.result c.loop-x.invariant read
    (λ q weight h i.
    rw (
      ← same_item c.args.source.now c.loop-x.x c.index-source-x.result q beside h,
      ← same_item c.args.mask.now c.loop-x.x (get_or c.args.mask.now c.loop-x.x 0) weight masked i,
    ) c.blend_pixel_by_mask.ensures)

pub returns : goal.returns
returns g c = λ k p q weight h i m.
    let r = all_changed _ c.args.row.now c.loop-x.row c.loop-x.x c.loop-x.invariant c.loop-x-test.false k p h in
    r.2 ∙ ap Some (r.1 q weight i m)
