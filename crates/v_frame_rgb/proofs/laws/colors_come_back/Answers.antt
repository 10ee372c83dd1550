-- The error of each step is bounded.
use Rattle.v_frame_rgb.proofs.RoundTrips.{comes_back}
use Rattle.v_frame_rgb.proofs.laws.colors_come_back.Goals as goal

pub returns : goal.returns
returns c = comes_back
