-- A flip and a transposition can be swapped.
use Rattle.std.proofs.Common.{sym}
use Rattle.v_frame_turn.proofs.Quarters.{mirrored_first, transposed_twice, upside_down_first}
use Rattle.v_frame_turn.proofs.laws.transpositions_undo_themselves.Goals as goal

pub returns-clause-twice : goal.returns-clause-twice
returns-clause-twice g c = transposed_twice

pub returns-clause-rotated_90 : goal.returns-clause-rotated_90
returns-clause-rotated_90 g c = upside_down_first

pub returns-clause-rotated_270 : goal.returns-clause-rotated_270
returns-clause-rotated_270 g c = λ rows w h size. sym (mirrored_first rows w h size)
