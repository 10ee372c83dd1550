use Rattle.std.proofs.Common.{refl}
use Rattle.v_frame_plane.specs.Copy.{packed_byte_copy}
use Rattle.v_frame_raster.proofs.tables.BytesBack.{are_bytes}
use Rattle.v_frame_plane.proofs.copies.ByteLaws.{packed_bytes}
use Rattle.v_frame_plane.proofs.laws.bytes_come_back.Goals as goal

pub returns : goal.returns
returns g c = λ table source bytes.
    let copy = packed_byte_copy g.T.Pixel.form table source in
    packed_bytes g.T.Pixel.form g.met.T.Pixel.value_of_pixel table copy.table source (are_bytes source bytes)
    copy.answer refl refl
