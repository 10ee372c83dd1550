-- If a depth fits a type of pixels, its values fit the type, and the depth is at most 16.
use Rattle.std.proofs.Common.{◌≤◌, arith, rules, of_calls}
use Rattle.v_frame_convert.proofs.Depths.{depth_within}
use Rattle.v_frame_convert.proofs.rows.range.to_full_range.Goals as goal

pub map_into-requires-clause-callable : goal.map_into-requires-clause-callable
map_into-requires-clause-callable g c κs within =
    let fits = depth_within g.T.Pixel.BYTES c.args.depth c.requires.depth.high in
    let deep : c.args.depth ≤ 16 =
    omega (arith, c.requires.depth.high, g.met.T.Pixel.byte_or_two.1, g.met.T.Pixel.bytes_of_form) in
    search (rules, of_calls)

pub map_into-requires-in-Chroma-clause-callable : goal.map_into-requires-in-Chroma-clause-callable
map_into-requires-in-Chroma-clause-callable g c κs within =
    let fits = depth_within g.T.Pixel.BYTES c.args.depth c.requires.depth.high in
    let deep : c.args.depth ≤ 16 =
    omega (arith, c.requires.depth.high, g.met.T.Pixel.byte_or_two.1, g.met.T.Pixel.bytes_of_form) in
    search (rules, of_calls)
