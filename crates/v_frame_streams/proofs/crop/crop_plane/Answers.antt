-- A region of a plane needs no more memory than the plane.
use Rattle.std.proofs.Common.{◌≤◌, arith}
use Rattle.std.proofs.lemmas.Nat.{mul-le}
use Rattle.v_frame.specs.Prelude.{alloc_size_of, alloc_height_of, stride_of}
use Rattle.v_frame_streams.specs.Crops.{unpadded_part}
use Rattle.v_frame_streams.proofs.crop.crop_plane.Goals as goal

pub new-requires-after_bounds : goal.new-requires-after_bounds
new-requires-after_bounds g c κs within =
    let whole = c.geometry-whole.result in
    let part = c.args.part.now in
    let laid = c.geometry-whole.ensures.value in
    let size : alloc_size_of (unpadded_part part whole) ≤ alloc_size_of whole = mul-le (alloc_height_of (unpadded_part part whole))
    (stride_of (unpadded_part part whole)) (alloc_height_of whole) (stride_of whole)
    (grind (arith, c.requires.inside.1, laid)) (grind (arith, c.requires.inside.0, laid)) in
    grind (arith, size, c.geometry-whole.ensures.fits, c.in-Some.ensures, c.subsampling_x-columns.ensures, c.subsampling_y-rows.ensures)
