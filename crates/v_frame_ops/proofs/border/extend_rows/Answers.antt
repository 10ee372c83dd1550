-- The buffer keeps its length, and extending a row leaves the other rows unchanged.
use Rattle.std.proofs.Common.{◌+◌, ◌∙◌, arith}
use Rattle.v_frame.specs.Prelude.{raster, table_of}
use Rattle.v_frame_ops.specs.Border.{nearest}
use Rattle.v_frame_ops.proofs.Tables.{one_more_moved}
use Rattle.v_frame_ops.proofs.border.extend_rows.Goals as goal

pub extend_row_at-requires-clause-whole : goal.extend_row_at-requires-clause-whole
extend_row_at-requires-clause-whole g c = record {
  fits = c.requires.whole.fits;
  whole = c.loop-y.auto.buffer ∙
      c.requires.whole.whole;
}

pub loop-y-preserved : goal.loop-y-preserved
loop-y-preserved g c =
    one_more_moved (λ x. c.args.left + nearest c.args.left c.args.width x) c.args.whole.width c.args.top
    (table_of (raster c.args.whole c.args.buffer.now))
    (table_of (raster c.args.whole c.loop-y.buffer)) (table_of (raster c.args.whole c.extend_row_at.new.buffer))
    c.loop-y.y c.loop-y.invariant
    c.extend_row_at.ensures.row c.extend_row_at.ensures.others

pub returns : goal.returns
returns g c = record { inside = λ x k across down below. c.loop-y.invariant.inside k (omega arith) x across down }
