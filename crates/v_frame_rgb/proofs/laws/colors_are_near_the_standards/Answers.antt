-- The proof treats each matrix separately.
use Rattle.v_frame_rgb.proofs.Distances.{red_near, green_near, blue_near}
use Rattle.v_frame_rgb.proofs.laws.colors_are_near_the_standards.Goals as goal

pub returns-clause-red : goal.returns-clause-red
returns-clause-red c = red_near

pub returns-clause-green : goal.returns-clause-green
returns-clause-green c = green_near

pub returns-clause-blue : goal.returns-clause-blue
returns-clause-blue c = blue_near
