-- Two rows are swapped and mirrored. The upper one ends before the lower one begins.
use Rattle.std.proofs.Common.{◌≡◌, ◌+◌, ◌-◌, ◌*◌, ◌/◌, ◌%◌, ◌<◌, length, drop, take, ◌∙◌, ap, arith}
use Rattle.std.proofs.Common.{length-take-le, length-drop}
use Rattle.v_frame.specs.Prelude.{strided_rows, RowsFit}
use Rattle.v_frame_raster.proofs.tables.Strides.{height_of_rows, strided_row}
use Rattle.v_frame_raster.proofs.tables.StridedWrites.{row_ends, row_put, rest_put, rest_kept, rest_same}
use Rattle.v_frame_turn.specs.Turning.{list_from}
use Rattle.v_frame_turn.proofs.Flipped.{length-list_from}
use Rattle.v_frame_turn.proofs.Exchanged.{none_exchanged, all_exchanged, all_exchanged_round}
use Rattle.v_frame_turn.proofs.RowPairs.{RowsExchanged, one_more_pair}
use Rattle.v_frame_turn.proofs.rows.flip_in_place.turn_upside_down.Goals as goal

pub loop-y-init : goal.loop-y-init
loop-y-init g c =
    let w = c.args.width in let h = c.args.height in let s = c.args.stride in let xs = c.args.buffer.now in
    record { rows = none_exchanged _ (strided_rows w h s xs); rest = rest_same w h s xs }

pub loop-y-preserved : goal.loop-y-preserved
loop-y-preserved g c =
    let w = c.args.width in let h = c.args.height in let s = c.args.stride in let y = c.loop-y.y in let j = h - 1 - y in
    let old = c.args.buffer.now in let xs = c.loop-y.buffer in
    let front = c.split_at_mut-above.result.0.now in let back = c.split_at_mut-above.result.1.now in
    let a = c.exchange_rows.new.a in let b = c.exchange_rows.new.b in let start = s * y in
    let cut : start + w - start ≡ w = omega arith in
    let fit : RowsFit w h s (length xs) = rw (c.loop-y.auto.buffer) c.requires in
    let ends = row_ends w h s (length xs) j fit (omega arith) in
    let wide : length (take w back) ≡ w =
    length-take-le w back (omega (arith, ends, c.split_at_mut-above.ensures.back_len)) in
    let first : a ≡ list_from c.args.mirrored (take w back) = c.exchange_rows.ensures.first in
    let second : b ≡ list_from c.args.mirrored (take w (drop start front)) = rw cut at c.exchange_rows.ensures.second in
    let pair : RowsExchanged (list_from c.args.mirrored) w h s old _ (y + 1) =
    one_more_pair (list_from c.args.mirrored) w h s old xs front back a b y j c.requires c.loop-y.auto.buffer
    c.split_at_mut-above.ensures.value c.split_at_mut-above.ensures.front_len (omega arith) (omega arith)
    (ap length first ∙ length-list_from c.args.mirrored (take w back) ∙ wide) (c.exchange_rows.auto.b ∙ wide) first second
    (record { rows = c.loop-y.invariant.rows; rest = c.loop-y.invariant.rest }) in
    rw cut (record { rows = pair.rows; rest = pair.rest })

pub returns-else-height-eq1-clause-table : goal.returns-else-height-eq1-clause-table
returns-else-height-eq1-clause-table g c =
    let w = c.args.width in let h = c.args.height in let s = c.args.stride in
    let old = strided_rows w h s c.args.buffer.now in
    let count = height_of_rows w h s c.args.buffer.now in
    let even : h % 2 ≡ 0 = omega (arith, c.if-height-eq1.false) in
    all_exchanged (list_from c.args.mirrored) old (strided_rows w h s c.loop-y.buffer) c.loop-y.y c.loop-y.invariant.rows
    (omega (arith, count, even))

pub returns-then-height-eq1-clause-table : goal.returns-then-height-eq1-clause-table
returns-then-height-eq1-clause-table g c =
    let w = c.args.width in let h = c.args.height in let s = c.args.stride in let y = h / 2 in let start = s * y in
    let old = c.args.buffer.now in let xs = c.loop-y.buffer in let row = c.turn_row.new.row in
    let count = height_of_rows w h s old in
    let fit : RowsFit w h s (length xs) = rw (c.loop-y.auto.buffer) c.requires in
    let high : y < h = omega (arith, c.if-height-eq1.true) in
    let ends = row_ends w h s (length xs) y fit high in
    let cut : start + w - start ≡ w = omega arith in
    let part = take w (drop start xs) in
    let wide : length part ≡ w = length-take-le w (drop start xs) (omega (arith, length-drop start xs, ends)) in
    let is : row ≡ list_from c.args.mirrored part = rw cut at c.turn_row.ensures in
    let long : length row ≡ w = rw (cut, wide) at c.turn_row.auto.row in
    let here : c.loop-y.y ≡ y = omega (arith) in
    let done = rw here at c.loop-y.invariant.rows in
    rw cut (row_put w h s xs row y fit high long ∙ all_exchanged_round (list_from c.args.mirrored) (strided_rows w h s old)
    (strided_rows w h s xs) y part row done (omega (arith, count, c.if-height-eq1.true))
    (strided_row w h s xs y fit.apart high) is)

pub returns-then-height-eq1-clause-rest : goal.returns-then-height-eq1-clause-rest
returns-then-height-eq1-clause-rest g c =
    let w = c.args.width in let h = c.args.height in let s = c.args.stride in let y = h / 2 in let start = s * y in
    let old = c.args.buffer.now in let xs = c.loop-y.buffer in let row = c.turn_row.new.row in
    let fit : RowsFit w h s (length xs) = rw (c.loop-y.auto.buffer) c.requires in
    let high : y < h = omega (arith, c.if-height-eq1.true) in
    let ends = row_ends w h s (length xs) y fit high in
    let cut : start + w - start ≡ w = omega arith in
    let wide = length-take-le w (drop start xs) (omega (arith, length-drop start xs, ends)) in
    let long : length row ≡ w = rw (cut, wide) at c.turn_row.auto.row in
    rw cut (rest_kept w h s old xs _ c.loop-y.invariant.rest (rest_put w h s xs row y fit high long))
