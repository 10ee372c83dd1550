-- The number of bytes of luma and of both chroma planes.
use Rattle.std.proofs.Common.{◌≡◌, ◌+◌, ◌*◌, length, ap, arith, length-append}
use Rattle.v_frame.specs.Prelude.{row_major, tables_of}
use Rattle.v_frame_semi_planar.specs.Format.{unused_bits}
use Rattle.v_frame_semi_planar.specs.SemiPlanar.{chroma_pixels, semi_planar_pixels}
use Rattle.v_frame_semi_planar.proofs.Stored.{length-bytes, length-stored}
use Rattle.v_frame_semi_planar.proofs.length.semi_planar_len.Goals as goal

pub returns-clause-value : goal.returns-clause-value
returns-clause-value g c =
    let form = g.T.Pixel.form in
    let tables = tables_of c.args.frame.now in
    let luma = row_major tables.y in
    let chroma = chroma_pixels c.args.format tables.u tables.v in
    let pixels : length (semi_planar_pixels c.args.format tables) ≡ length luma + length chroma =
    length-append luma chroma in
    omega (
      arith,
      length-stored form (unused_bits c.args.format) (semi_planar_pixels c.args.format tables),
      ap (λ n. form.size * n) pixels,
      ap (λ xs. form.size * length xs) c.in_ok-first.ensures.planes,
      c.pair_len-chroma.ensures,
      length-bytes form 0 luma,
      c.byte_len.ensures.bytes,
      c.saturating_add.ensures,
    )
