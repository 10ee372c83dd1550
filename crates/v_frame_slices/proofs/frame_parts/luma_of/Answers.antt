-- No picture with a padding that cannot be counted fits.
use Rattle.std.proofs.Common.{◌*◌}
use Rattle.std.specs.Int.{div_ceil}
use Rattle.v_frame.specs.Prelude.{usize_max}
use Rattle.v_frame_slices.proofs.Bounds.{across_is_counted, down_is_counted}
use Rattle.v_frame_slices.proofs.frame_parts.luma_of.Goals as goal

pub returns-in_err-across : goal.returns-in_err-across
returns-in_err-across c =
    let r = c.args.request.now in
    let across = div_ceil r.padding c.args.columns * c.args.columns in
    let down = div_ceil r.padding c.args.rows * c.args.rows in
    rw (c.from_residual.ensures) (λ is.
    c.in_err-across.ensures (rw (c.div_ceil.ensures) (across_is_counted r.width r.height across down usize_max is)))

pub returns-in_err-down : goal.returns-in_err-down
returns-in_err-down c =
    let r = c.args.request.now in
    let across = div_ceil r.padding c.args.columns * c.args.columns in
    let down = div_ceil r.padding c.args.rows * c.args.rows in
    rw (c.from_residual-in_err-down.ensures) (λ is.
    c.in_err-down.ensures (rw (c.div_ceil-2.ensures) (down_is_counted r.width r.height across down usize_max is)))
