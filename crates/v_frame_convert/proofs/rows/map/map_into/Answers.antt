-- A fact about the rows holds for their pixels. If the closure computes a function, the table is `map` of this
-- function.
use Rattle.v_frame_convert.specs.Convert.{converted}
use Rattle.v_frame_convert.specs.Rows.{GivesItems}
use Rattle.v_frame_convert.proofs.Made.{gives_pixels, gives_whole}
use Rattle.v_frame_convert.proofs.rows.map.map_into.Goals as goal

pub returns-clause-pixels : goal.returns-clause-pixels
returns-clause-pixels g c = gives_pixels (goal.F-post g c.args.change) _ _ c.map_rows.ensures.rows

pub returns-clause-converted : goal.returns-clause-converted
returns-clause-converted g c = λ change is.
    let gives = goal.F-post g c.args.change in
    gives_whole (GivesItems gives) (converted change) (gives_whole gives change is) _ _ c.map_rows.ensures.rows
