-- A frame without chroma is shown in gray.
use Rattle.std.proofs.Common.{sym}
use Rattle.yuv_pictures.proofs.colors.write_frame_picture.Goals as goal

pub returns-else-has_chroma-clause-file : goal.returns-else-has_chroma-clause-file
returns-else-has_chroma-clause-file g c =
    rw (sym c.if-has_chroma.ensures) (rw (c.as_plane_ref.ensures, c.get-depth.ensures.value) at c.write_gray.ensures.file)
