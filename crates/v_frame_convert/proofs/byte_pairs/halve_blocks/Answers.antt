-- The loop step writes sixteen more means. After the last step, all are written.
use Rattle.std.proofs.Common.{◌≡◌, ◌+◌, ◌-◌, ◌*◌, ◌≤◌, length, drop, arith, length-take-le, length-drop}
use Rattle.std.proofs.lemmas.List.{take_all}
use Rattle.v_frame_convert.proofs.PairMeans.{more_means}
use Rattle.v_frame_convert.proofs.byte_pairs.halve_blocks.Goals as goal

pub loop-block-preserved : goal.loop-block-preserved
loop-block-preserved g c =
    let form = g.T.Pixel.form in let k = c.loop-block.block in let at = 16 * k in
    let row = c.loop-block.row in let source = c.args.source.now in
    let room : at + 16 ≤ length row = omega (arith, c.loop-block.auto.row) in
    let cut : at + 16 - at ≡ 16 = omega arith in
    let cut_source : 2 * at + 32 - 2 * at ≡ 32 = omega arith in
    let part = length-take-le 16 (drop at row) (omega (arith, length-drop at row, room)) in
    let count = rw (cut, part) at c.halve_block.auto.row in
    rw cut (more_means form 16 k source row _ room (omega (arith, c.requires.long, c.loop-block.auto.row)) count
    (rw cut_source at c.halve_block.ensures) c.loop-block.invariant)

pub returns : goal.returns
returns g c =
    let row = c.loop-block.row in let source = c.args.source.now in let at = 16 * c.loop-block.block in
    let done : length row ≤ at = omega (arith, c.loop-block.auto.row, c.requires.whole) in
    rw (take_all at row done, take_all (2 * at) source (omega (arith, done, c.loop-block.auto.row, c.requires.long))) at
    c.loop-block.invariant
