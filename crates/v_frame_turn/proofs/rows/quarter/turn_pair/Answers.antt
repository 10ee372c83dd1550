-- The two pixels that are written are pixels of the source.
use Rattle.std.proofs.Common.{◌≡◌, length, Some, slice_get, sym, ◌∙◌, arith}
use Rattle.std.proofs.lemmas.Option.{slice_get_read}
use Rattle.v_frame_turn.specs.Turning.{turned_pixel}
use Rattle.v_frame_turn.proofs.Entries.{none_right, one_more_right, read_turned}
use Rattle.v_frame_turn.proofs.rows.quarter.turn_pair.Goals as goal

pub loop-y-init : goal.loop-y-init
loop-y-init g c = none_right _ c.args.width c.args.height c.args.stride c.args.buffer.now c.args.x c.args.next
    c.args.from

pub loop-y-preserved : goal.loop-y-preserved
loop-y-preserved g c =
    let source = c.args.source.now in
    let row = c.visible_row-row in let next_row = c.visible_row-next_row in let column = c.counted-column in
    let p = c.index-row-column.result in let q = c.index-next_row-column.result in
    let right = turned_pixel c.args.corner.from_right c.args.corner.from_bottom source in
    let wide : c.args.height ≡ length row.result.now = sym (row.ensures.wide ∙ c.requires.high) in
    let next_wide : c.args.height ≡ length next_row.result.now = sym (next_row.ensures.wide ∙ c.requires.high) in
    let is : slice_get row.result.now column.result ≡ Some p =
    slice_get_read row.result.now _ column.result p wide column.ensures.within c.index-row-column.is in
    let is_next : slice_get next_row.result.now column.result ≡ Some q =
    slice_get_read next_row.result.now _ column.result q next_wide column.ensures.within c.index-next_row-column.is in
    one_more_right right c.args.width c.args.height c.args.stride c.args.buffer.now c.loop-y.buffer c.args.x c.args.next
    c.args.from c.loop-y.y p q c.requires.fit c.loop-y.auto.buffer c.requires.across c.requires.next_across
    (omega arith)
    (read_turned source c.args.width c.args.height c.args.corner.from_right c.args.corner.from_bottom c.args.x
    c.loop-y.y
    _ _ row.result.now p c.requires.wide c.requires.high c.counted.ensures.value column.ensures.value row.ensures.value
    is)
    (read_turned source c.args.width c.args.height c.args.corner.from_right c.args.corner.from_bottom c.args.next
    c.loop-y.y _ _ next_row.result.now q c.requires.wide c.requires.high c.counted-2.ensures.value column.ensures.value
    next_row.ensures.value is_next)
    c.loop-y.invariant
