-- The table of colors, case by case.
use Rattle.v_frame_y4m.proofs.ColorsFound.{found_has, none_has}
use Rattle.v_frame_y4m.proofs.laws.found_colors_have_the_three.Goals as goal

pub returns-clause-has : goal.returns-clause-has
returns-clause-has c = found_has

pub returns-clause-none : goal.returns-clause-none
returns-clause-none c = none_has
