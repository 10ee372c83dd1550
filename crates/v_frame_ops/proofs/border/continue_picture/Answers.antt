-- The whole buffer is extended from the picture, and the nearest visible pixel to a visible pixel is the pixel itself.
use Rattle.std.proofs.Common.{◌≡◌, ◌+◌, arith}
use Rattle.v_frame.specs.Prelude.{raster}
use Rattle.v_frame_ops.specs.Border.{nearest}
use Rattle.v_frame_ops.proofs.border.continue_picture.Goals as goal

pub returns-clause-padded : goal.returns-clause-padded
returns-clause-padded g c = λ x y across down.
    let geometry = c.args.geometry in
    let extended = c.extend_picture.ensures x y across down in
    let shown = c.whole_rows_hold_pixels.ensures (raster geometry c.args.buffer.now)
    (nearest geometry.pad_left geometry.width x)
    (nearest geometry.pad_top geometry.height y) (omega arith) (omega arith) in
    cc

pub returns-clause-visible : goal.returns-clause-visible
returns-clause-visible g c = λ x y across down.
    let geometry = c.args.geometry in
    let extended = c.extend_picture.ensures (geometry.pad_left + x) (geometry.pad_top + y) (omega arith) (omega arith)
    in
    let column : geometry.pad_left + nearest geometry.pad_left geometry.width (geometry.pad_left + x) ≡
    geometry.pad_left + x = omega arith in
    let row : geometry.pad_top + nearest geometry.pad_top geometry.height (geometry.pad_top + y) ≡ geometry.pad_top + y
    = omega arith in
    let before = c.whole_rows_hold_pixels.ensures (raster geometry c.args.buffer.now) x y across down in
    let after = c.whole_rows_hold_pixels.ensures (raster geometry c.extend_picture.new.buffer) x y across down in
    cc
