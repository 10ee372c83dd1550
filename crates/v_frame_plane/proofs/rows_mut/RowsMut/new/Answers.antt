-- The rows ahead of the origin are the visible rows, and lie in the buffer. If other rows replace them, these are the
-- table.
use Rattle.v_frame_plane.specs.RowsLeft.{rows_left}
use Rattle.v_frame_plane.specs.FinalRows.{WritesEachTable}
use Rattle.std.proofs.Common.{◌-◌, arith}
use Rattle.v_frame_raster.specs.Raster.{raster}
use Rattle.v_frame_plane.proofs.iterators.BegunRows.{visible_countable}
use Rattle.v_frame_plane.proofs.iterators.Cursors.{visible_rows, rows_within, few_rows}
use Rattle.v_frame_plane.proofs.lent.FinalRows.{writes_table}
use Rattle.v_frame_plane.proofs.rows_mut.RowsMut.new.Goals as goal

pub invariant_of-result : goal.invariant_of-result
invariant_of-result g c =
    let valid = c.width-width.ensures.valid in
    record {
      within = record {
        wide = omega (arith, valid.wide);
        stride = omega (arith, valid.stride_fits);
        within = λ _. omega (
          arith,
          rows_within c.args.geometry c.data_origin.result c.width-width.result (c.stride.result - c.width-width.result)
              c.height.result valid.high c.data_origin.ensures.value c.width-width.ensures.value (omega arith)
              c.height.ensures.value,
        );
      };
    }

pub returns-clause-rows : goal.returns-clause-rows
unfolding rows_left
returns-clause-rows g c =
    visible_rows c.args.geometry c.args.buffer.now c.data_origin.result c.width-width.result
    (c.stride.result - c.width-width.result) c.height.result
    c.data_origin.ensures.value c.width-width.ensures.value (omega arith) c.height.ensures.value

pub returns-clause-countable : goal.returns-clause-countable
returns-clause-countable g c =
    rw (returns-clause-rows g c) (visible_countable (raster c.args.geometry c.args.buffer.now)
    c.width-width.ensures.valid.wide c.requires)

pub returns-clause-bound : goal.returns-clause-bound
returns-clause-bound g c =
    rw (returns-clause-rows g c) (few_rows (raster c.args.geometry c.args.buffer.now) c.width-width.ensures.valid.wide
    c.requires.fits)

pub returns-clause-written : goal.returns-clause-written
unfolding WritesEachTable
returns-clause-written g c = λ rows same.
    writes_table (raster c.args.geometry c.args.buffer.now) c.data_origin.result c.width-width.result
    (c.stride.result - c.width-width.result) c.height.result
    rows c.requires.whole c.width-width.ensures.valid.high c.data_origin.ensures.value c.width-width.ensures.value
    (omega arith) c.height.ensures.value same
