-- One more entry of the list, and the end.
use Rattle.std.proofs.Common.{◌<◌, List, length, Some, get_or, sym, ◌∙◌, ap, arith}
use Rattle.std.proofs.lemmas.Option.{slice_get-get_or}
use Rattle.v_frame_raster.proofs.tables.Overwrites.{overwritten_by_none, written_more, written_all}
use Rattle.v_frame.proofs.replay.row_writes.overwrite.Goals as goal

pub loop-i-init : goal.loop-i-init
loop-i-init g c = sym (overwritten_by_none c.args.row.now)

pub loop-i-preserved : goal.loop-i-preserved
loop-i-preserved g c =
    let row = c.args.row.now in
    let writes = c.args.writes.now in
    let i = c.loop-i.i in
    let high : i < length row = omega (arith, c.min-i-end.ensures) in
    let read : i < length writes = omega (arith, c.min-i-end.ensures) in
    let write = c.index-writes-i.result in
    let pixel = c.index-row-i.result in
    let listed = slice_get-get_or writes i write read ∙ ap Some (sym c.index-writes-i.is) in
    let stood = c.index-row-i.is ∙ ap (λ (r : List g.row.T.Denot). get_or r i pixel) c.loop-i.invariant in
    rw (c.unwrap_or.ensures, c.loop-i.invariant) (sym (written_more row writes i write pixel high listed stood))

pub returns : goal.returns
returns g c = c.loop-i.invariant ∙ written_all c.args.row.now c.args.writes.now c.loop-i.i
    (omega (arith, c.min-i-end.ensures))
