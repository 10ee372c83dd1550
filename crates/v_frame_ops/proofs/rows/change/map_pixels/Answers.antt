-- A fact about the rows holds for their pixels. If the closure computes a function, the table is `map` of this
-- function.
use Rattle.v_frame_ops.specs.Change.{mapped}
use Rattle.v_frame_ops.specs.Rows.{MapsItems}
use Rattle.v_frame_ops.proofs.Mapped.{maps_pixels, maps_whole}
use Rattle.v_frame_ops.proofs.rows.change.map_pixels.Goals as goal

pub returns-clause-pixels : goal.returns-clause-pixels
returns-clause-pixels g c = maps_pixels (goal.F-post g c.args.change) _ _ c.map_rows.ensures.rows

pub returns-clause-mapped : goal.returns-clause-mapped
returns-clause-mapped g c = λ change is.
    let gives = goal.F-post g c.args.change in
    maps_whole (MapsItems gives) (mapped change) (maps_whole gives change is) _ _ c.map_rows.ensures.rows
