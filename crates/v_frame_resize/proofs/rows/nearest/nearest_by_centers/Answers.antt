-- The pixel that contains the center is written.
use Rattle.std.proofs.Common.{◌≡◌, length, Some, slice_get, refl, arith}
use Rattle.std.proofs.lemmas.Option.{slice_get_read}
use Rattle.v_frame_resize.specs.Resize.{nearest}
use Rattle.v_frame_resize.proofs.CenterLemmas.{nearest_is, center_inside}
use Rattle.v_frame_resize.proofs.RowWritten.{one_written}
use Rattle.v_frame_resize.proofs.rows.nearest.nearest_by_centers.Goals as goal

pub loop-x-preserved : goal.loop-x-preserved
loop-x-preserved g c =
    let row = c.args.row.now in let out = c.loop-x.out in let x = c.loop-x.x in let item = c.index-row-center.result in
    let source = length row in let target = length c.args.out.now in
    let center = c.loop-x.invariant.center in
    let inside = center_inside source target x c.loop-x.center center c.requires.row_some c.loop-x-test.true in
    let read : slice_get row c.loop-x.center.index ≡ Some item =
    slice_get_read row source c.loop-x.center.index item refl inside c.index-row-center.is in
    let found : slice_get row (nearest source target x) ≡ Some item =
    rw (nearest_is source target x c.loop-x.center center) read in record {
      center = c.next_center-center.ensures source target x center;
      pixels =
          one_written (λ k. slice_get row (nearest source target k)) out x item c.loop-x.invariant.pixels (omega arith)
          found;
    }
