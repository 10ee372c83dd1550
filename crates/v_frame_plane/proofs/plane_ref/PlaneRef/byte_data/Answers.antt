-- Calls from one end yield the remaining bytes in order.
use Rattle.v_frame_plane.proofs.iterators.WalkRuns.{gives_in_order, gives_in_reverse}
use Rattle.v_frame_plane.proofs.plane_ref.PlaneRef.byte_data.Goals as goal

pub returns-clause-runs : goal.returns-clause-runs
returns-clause-runs g c = gives_in_order

pub returns-clause-runs_back : goal.returns-clause-runs_back
returns-clause-runs_back g c = gives_in_reverse
