use Rattle.std.proofs.Common.{refl}
use Rattle.v_frame_plane.specs.Copy.{strided_copy}
use Rattle.v_frame_raster.proofs.tables.BytesBack.{are_bytes}
use Rattle.v_frame_plane.proofs.copies.ByteLaws.{strided_bytes}
use Rattle.v_frame_plane.proofs.laws.bytes_come_back_without_tails.Goals as goal

pub returns : goal.returns
returns g c = λ table source stride bytes.
    let copy = strided_copy g.T.Pixel.form table source stride in
    strided_bytes g.T.Pixel.form g.met.T.Pixel.value_of_pixel table copy.table source (are_bytes source bytes) stride
    copy.answer refl refl
