-- A list that is reversed twice is unchanged.
use Rattle.std.proofs.Common.{reverse}
use Rattle.std.proofs.lemmas.List.{reverse-reverse}
use Rattle.v_frame_raster.proofs.tables.ListItems.{map-reverse}
use Rattle.v_frame_turn.proofs.Quarters.{mirrored_twice}
use Rattle.v_frame_turn.proofs.laws.flips_undo_themselves.Goals as goal

pub returns-clause-vertical : goal.returns-clause-vertical
returns-clause-vertical g c = reverse-reverse

pub returns-clause-horizontal : goal.returns-clause-horizontal
returns-clause-horizontal g c = mirrored_twice

pub returns-clause-either_order : goal.returns-clause-either_order
returns-clause-either_order g c = map-reverse reverse
