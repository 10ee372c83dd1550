-- The rows ahead of the origin are the visible rows, and lie in the buffer.
use Rattle.std.proofs.Common.{◌≡◌, ◌-◌, length, sym, ◌∙◌, ap, arith}
use Rattle.v_frame_raster.specs.Geometry.{alloc_size_of}
use Rattle.v_frame_raster.specs.Raster.{raster}
use Rattle.v_frame_plane.proofs.iterators.Cursors.{visible_rows, rows_within, few_rows}
use Rattle.v_frame_plane.proofs.rows.Rows.new.Goals as goal

pub invariant_of-result : goal.invariant_of-result
invariant_of-result g c =
    let k = c.geometry-geometry.result in
    let valid = c.width-width.ensures.valid in
    let whole : length c.data.result.now ≡ alloc_size_of k = c.data.ensures.whole ∙ ap alloc_size_of
    (sym c.geometry-geometry.ensures.value) in
    record {
      wide = omega (arith, valid.wide);
      stride = omega (arith, valid.stride_fits);
      within = λ _. omega (
        arith,
        whole,
        rows_within k c.data_origin.result c.width-width.result (c.stride.result - c.width-width.result) c.height.result
            valid.high c.data_origin.ensures.value c.width-width.ensures.value (omega arith) c.height.ensures.value,
      );
    }

pub returns-clause-bound : goal.returns-clause-bound
returns-clause-bound g c =
    let k = c.geometry-geometry.result in
    let valid = c.width-width.ensures.valid in
    let rows = visible_rows k c.data.result.now c.data_origin.result c.width-width.result
    (c.stride.result - c.width-width.result) c.height.result
    c.data_origin.ensures.value c.width-width.ensures.value (omega arith) c.height.ensures.value in
    rw rows (few_rows (raster k c.data.result.now) valid.wide c.geometry-geometry.ensures.fits)
