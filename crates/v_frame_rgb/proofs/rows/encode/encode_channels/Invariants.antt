-- In each channel, the samples processed so far are the samples of the colors processed so far.
use Rattle.std.proofs.Common.{◌≡◌, map, take}
use Rattle.v_frame_rgb.specs.Colors.{colors_in, y_of, u_of, v_of}
use Rattle.v_frame_rgb.proofs.rows.encode.encode_channels.Given as goal

abbrev pub invariant-loop-x : goal.invariant-loop-x
invariant-loop-x g l =
    let so_far = colors_in g.O.ColorOrder.color_at g.O.ColorOrder.BYTES l.x l.colors in record {
      y : take l.x l.y ≡ map (y_of l.matrix) so_far;
      u : take l.x l.u ≡ map (u_of l.matrix) so_far;
      v : take l.x l.v ≡ map (v_of l.matrix) so_far;
    }
