-- The plane with the name is the plane that was written.
use Rattle.std.proofs.Common.{◌≡◌, Some, sym, ap, ◌∙◌}
use Rattle.v_frame.specs.Prelude.{plane_at}
use Rattle.yuv_pictures.specs.Planes.{plane_named}
use Rattle.yuv_pictures.proofs.gray.write_plane_picture.Goals as goal

pub returns-in-Some-clause-file : goal.returns-in-Some-clause-file
returns-in-Some-clause-file g c =
    let named : plane_named c.args.frame.now c.args.plane ≡ Some c.in-Some.plane.now =
    ap (plane_at c.args.frame.now) (sym c.index.ensures) ∙ sym c.in-Some.ensures in
    rw named (rw (c.as_plane_ref.ensures, c.get.ensures.value) at c.write_gray.ensures.file)
