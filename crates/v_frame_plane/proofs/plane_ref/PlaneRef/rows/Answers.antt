-- Calls from one end yield the remaining rows in order.
use Rattle.v_frame_plane.proofs.iterators.WalkRuns.{shows_in_order, shows_in_reverse}
use Rattle.v_frame_raster.proofs.tables.Places.{rows_are_wide}
use Rattle.std.specs.Map.Iter.{deref}
use Rattle.v_frame_plane.proofs.plane_ref.PlaneRef.rows.Goals as goal

pub returns-clause-wide : goal.returns-clause-wide
returns-clause-wide g c = rw (c.new.ensures.rows) (rows_are_wide c.args.self.now c.new.ensures.plane.whole)

pub returns-clause-runs : goal.returns-clause-runs
returns-clause-runs g c = shows_in_order deref

pub returns-clause-runs_back : goal.returns-clause-runs_back
returns-clause-runs_back g c = shows_in_reverse deref
