-- A rotation by 90 degrees is a flip and a transposition.
use Rattle.v_frame_turn.proofs.Quarters.{four_quarters, quarter_after_three, quarter_twice, three_quarters}
use Rattle.v_frame_turn.proofs.laws.quarter_turns_add_up.Goals as goal

pub returns-clause-twice : goal.returns-clause-twice
returns-clause-twice g c = quarter_twice

pub returns-clause-three_times : goal.returns-clause-three_times
returns-clause-three_times g c = three_quarters

pub returns-clause-four_times : goal.returns-clause-four_times
returns-clause-four_times g c = four_quarters

pub returns-clause-back : goal.returns-clause-back
returns-clause-back g c = quarter_after_three
