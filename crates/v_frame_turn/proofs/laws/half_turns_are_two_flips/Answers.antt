-- The two flips commute.
use Rattle.std.proofs.Common.{reverse, sym}
use Rattle.v_frame_raster.proofs.tables.ListItems.{map-reverse}
use Rattle.v_frame_turn.proofs.Quarters.{half_twice}
use Rattle.v_frame_turn.proofs.laws.half_turns_are_two_flips.Goals as goal

pub returns-clause-mirrored_last : goal.returns-clause-mirrored_last
returns-clause-mirrored_last g c = λ rows. sym (map-reverse reverse rows)

pub returns-clause-twice : goal.returns-clause-twice
returns-clause-twice g c = half_twice
