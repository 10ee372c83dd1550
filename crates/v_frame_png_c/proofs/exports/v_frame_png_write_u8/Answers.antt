-- The file is at the beginning of the buffer, or does not fit.
use Rattle.std.proofs.Common.{◌≡◌, length, arith, rules}
use Rattle.std.proofs.lemmas.Grind.{common_steps}
use Rattle.v_frame_png.specs.Prelude.{IsFile}
use Rattle.v_frame_png_c.specs.Picture.{header_by, rows_of, samples_of_bytes, status_of}
use Rattle.v_frame_png_c.proofs.Written.{with_file}
use Rattle.v_frame_png_c.proofs.exports.v_frame_png_write_u8.Goals as goal

pub returns : goal.returns
returns c =
    let none : status_of c.args.picture.now (length c.args.samples.now) ≡ 0 = first_of (search rules, grind (arith, common_steps)) in
    let file : IsFile (header_by (samples_of_bytes c.args.picture.now.color) c.args.picture.now)
    (rows_of c.args.picture.now c.args.samples.now) c.as_slice.result.now = first_of (search rules, grind (arith, common_steps)) in
    record { made = with_file _ _ _ _ _ _ _ _ _ none file c.put_in_front.ensures.put }
