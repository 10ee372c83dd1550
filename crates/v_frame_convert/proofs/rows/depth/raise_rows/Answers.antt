-- The values fit the type of the pixels.
use Rattle.std.proofs.Common.{rules, of_calls}
use Rattle.v_frame_convert.proofs.rows.depth.raise_rows.Goals as goal

pub map_into-requires-clause-callable : goal.map_into-requires-clause-callable
map_into-requires-clause-callable g c κs within = let fits = c.requires.depth in search (rules, of_calls)
