-- A copy of bytes does not change the size of the table.
use Rattle.std.proofs.Common.{◌∙◌, ap}
use Rattle.v_frame_planar.specs.Planar.{size_of}
use Rattle.v_frame_planar.proofs.Sizes.{size_after_copy}
use Rattle.v_frame_planar.proofs.showing.show_plane.Goals as goal

pub returns-clause-size : goal.returns-clause-size
returns-clause-size g c = ap size_of c.copy_from_u8_slice.ensures.copied.table ∙ size_after_copy g.T.Pixel.form _ _ _
