-- The rows are those of the borrowed plane.
use Rattle.v_frame_plane.proofs.plane.Plane.rows.Goals as goal

pub returns-clause-rows : goal.returns-clause-rows
returns-clause-rows g c = rw (← c.as_plane_ref.ensures) c.rows.ensures.rows

pub returns-clause-wide : goal.returns-clause-wide
returns-clause-wide g c = rw (← c.as_plane_ref.ensures) c.rows.ensures.wide

pub returns-clause-runs : goal.returns-clause-runs
returns-clause-runs g c = c.rows.ensures.runs

pub returns-clause-runs_back : goal.returns-clause-runs_back
returns-clause-runs_back g c = c.rows.ensures.runs_back
