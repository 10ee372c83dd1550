-- A fact about the rows holds for their pixels. If the closure computes a function, the table is `map` of this
-- function.
use Rattle.v_frame_ops.specs.Change.{combined}
use Rattle.v_frame_ops.specs.Rows.{CombinesItems}
use Rattle.v_frame_ops.proofs.Mapped.{combines_pixels, combines_whole}
use Rattle.v_frame_ops.proofs.rows.change.combine_pixels.Goals as goal

pub returns-clause-pixels : goal.returns-clause-pixels
returns-clause-pixels g c = combines_pixels (goal.F-post g c.args.combine) _ _ _ c.combine_rows.ensures.rows

pub returns-clause-combined : goal.returns-clause-combined
returns-clause-combined g c = λ make is.
    let gives = goal.F-post g c.args.combine in
    combines_whole (CombinesItems gives) (combined make) (combines_whole gives make is) _ _ _
    c.combine_rows.ensures.rows
