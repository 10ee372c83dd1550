-- The bytes of a layout have all bits of its samples.
use Rattle.std.proofs.Common.{◌≡◌, ◌/◌, ◌^◌, ◌+◌, length, sym, ◌∙◌, ap}
use Rattle.v_frame.specs.Prelude.{tables_of}
use Rattle.v_frame_semi_planar.specs.Format.{depth_of, unused_bits}
use Rattle.v_frame_semi_planar.specs.SemiPlanar.{semi_planar_bytes, semi_planar_pixels, shown_pixels}
use Rattle.v_frame_semi_planar.proofs.CombinedLists.{quotient_is}
use Rattle.v_frame_semi_planar.proofs.ComesBack.{all_bits, comes_back}
use Rattle.v_frame_semi_planar.proofs.Stored.{length-stored}
use Rattle.v_frame_semi_planar.proofs.laws.samples_come_back.Goals as goal

pub returns : goal.returns
returns g c = λ size below.
    let form = g.T.Pixel.form in let format = c.args.format in let unused = unused_bits format in
    let pixels = semi_planar_pixels format (tables_of c.args.frame.now) in
    let bytes = semi_planar_bytes form format (tables_of c.args.frame.now) in
    let bits : 2 ^ (depth_of format + unused) ≡ 256 ^ form.size = all_bits format ∙ ap (λ n. 256 ^ n) (sym size) in
    let count : length bytes / form.size ≡ length pixels =
    quotient_is form.size (length pixels) (length bytes) g.met.T.Pixel.byte_or_two.0 (length-stored form unused pixels) in
    ap (λ n. shown_pixels form unused n bytes) count
    ∙ comes_back form unused (depth_of format) g.met.T.Pixel.pixel_of_value bits pixels below
