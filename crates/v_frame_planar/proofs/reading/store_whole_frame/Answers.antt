-- A frame of which bytes are missing is unchanged.
use Rattle.std.proofs.Common.{refl, rules}
use Rattle.v_frame_planar.proofs.reading.store_whole_frame.Goals as goal

pub returns-clause-truncated : goal.returns-clause-truncated
returns-clause-truncated g c = (search rules, search rules, search rules, refl)
