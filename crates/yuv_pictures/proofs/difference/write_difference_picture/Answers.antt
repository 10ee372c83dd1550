-- The plane that is written has the size of luma, and contains the differences.
use Rattle.std.proofs.Common.{ap}
use Rattle.yuv_pictures.proofs.difference.write_difference_picture.Goals as goal

pub returns-clause-file : goal.returns-clause-file
returns-clause-file g c =
    let is = c.in_ok-plane.ensures in
    let kept = ap (λ both. both.0) c.difference.ensures.border in
    let file = rw (c.as_plane_ref-2.ensures, c.difference.ensures.table, kept) at c.write_gray.ensures.file in
    rw (is, c.as_plane_ref.ensures, c.get-depth.ensures.value) at file
