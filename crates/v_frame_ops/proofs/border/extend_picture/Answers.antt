-- The rows are extended first and then repeated.
use Rattle.std.proofs.Common.{◌≡◌, ap, option_and_then, slice_get, ◌+◌, ◌∙◌, arith}
use Rattle.v_frame.specs.Prelude.{Geometry, stride_of, alloc_height_of}
use Rattle.v_frame_ops.specs.Border.{nearest}
use Rattle.v_frame_ops.proofs.border.extend_picture.Goals as goal

pub returns : goal.returns
returns g c = λ x y across down.
    let whole = c.whole_buffer-whole in
    let wide : whole.result.width ≡ stride_of c.args.geometry = ap (λ (k : Geometry). k.width) whole.ensures.value in
    let high : whole.result.height ≡ alloc_height_of c.args.geometry = ap (λ (k : Geometry). k.height)
    whole.ensures.value in
    let row = ap (option_and_then (λ r. slice_get r x)) (c.repeat_rows.ensures y (omega arith)) in
    let pixel = c.extend_rows.ensures.inside x (c.pad_top-top.result + nearest c.pad_top-top.result
    c.height-height.result y) (omega arith) (omega arith)
    (omega arith) in
    rw (
      whole.ensures.value,
      c.pad_top-top.ensures,
      c.height-height.ensures.value,
      c.pad_left.ensures,
      c.width.ensures.value,
    ) at (row ∙ pixel)
