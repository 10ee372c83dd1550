-- No bytes are left after the last plane.
use Rattle.std.proofs.Common.{append-nil, arith}
use Rattle.std.proofs.lemmas.List.{nil_from_length}
use Rattle.v_frame_planar.proofs.showing.show_planar_bytes.Goals as goal

pub returns-clause-bytes : goal.returns-clause-bytes
returns-clause-bytes g c =
    let y = c.show_plane-behind_y.ensures in
    let u = c.show_chroma-behind_u.ensures in
    let v = c.show_chroma.ensures in
    let none = nil_from_length c.show_chroma.result.now (omega (arith, c.requires, y.left, u.left, v.left)) in
    rw (y.bytes, u.bytes, v.bytes, none) (simp append-nil)
