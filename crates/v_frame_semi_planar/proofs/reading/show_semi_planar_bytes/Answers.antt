-- The bytes are those of luma, followed by those of both chroma planes.
use Rattle.std.proofs.Common.{◌≡◌, ◌+◌, ◌*◌, ◌++◌, length, take, option_map, sym, ◌∙◌, ap, arith}
use Rattle.std.proofs.Common.{length-append}
use Rattle.v_frame.specs.Prelude.{row_major, table_of, tables_of}
use Rattle.v_frame_semi_planar.specs.Format.{unused_bits}
use Rattle.v_frame_semi_planar.specs.SemiPlanar.{chroma_pixels, shown_pixels}
use Rattle.v_frame_semi_planar.proofs.Stored.{length-bytes, length-parts, shown-parts}
use Rattle.v_frame_semi_planar.proofs.reading.show_semi_planar_bytes.Goals as goal

pub split_at-requires : goal.split_at-requires
split_at-requires g c =
    let form = g.T.Pixel.form in let unused = unused_bits c.args.format in
    let tables = tables_of c.args.frame.now in
    let luma = row_major tables.y in
    let chroma = chroma_pixels c.args.format tables.u tables.v in
    let all = length-parts form unused c.args.bytes.now luma chroma c.requires.long in
    let cut : c.byte_len.result ≡ form.size * length luma = c.byte_len.ensures.bytes ∙ length-bytes form 0 luma in
    omega (arith, all, cut)

pub store_plane-requires-clause-long : goal.store_plane-requires-clause-long
store_plane-requires-clause-long g c κs within =
    let luma = row_major (tables_of c.args.frame.now).y in
    c.split_at.ensures.front_len ∙ c.byte_len.ensures.bytes ∙ length-bytes g.T.Pixel.form 0 luma

pub store_chroma_planes-requires-clause-long : goal.store_chroma_planes-requires-clause-long
store_chroma_planes-requires-clause-long g c κs within =
    let form = g.T.Pixel.form in let unused = unused_bits c.args.format in
    let tables = tables_of c.args.frame.now in
    let luma = row_major tables.y in
    let chroma = chroma_pixels c.args.format tables.u tables.v in
    let all = length-parts form unused c.args.bytes.now luma chroma c.requires.long in
    let cut : c.byte_len.result ≡ form.size * length luma = c.byte_len.ensures.bytes ∙ length-bytes form 0 luma in
    omega (arith, all, cut, c.split_at.ensures.back_len)

pub returns-clause-pixels : goal.returns-clause-pixels
returns-clause-pixels g c =
    let form = g.T.Pixel.form in let unused = unused_bits c.args.format in
    let tables = tables_of c.args.frame.now in
    let luma = row_major tables.y in
    let chroma = chroma_pixels c.args.format tables.u tables.v in
    let cut : c.byte_len.result ≡ form.size * length luma = c.byte_len.ensures.bytes ∙ length-bytes form 0 luma in
    let bytes = c.args.bytes.now in
    let at = c.byte_len.result in
    let first : row_major (table_of c.store_plane.new.plane) ≡ shown_pixels form unused (length luma) (take at bytes) =
    rw (c.unused_bits.ensures.value, c.split_at.ensures.front) at c.store_plane.ensures.pixels in
    let second = rw c.split_at.ensures.back at c.store_chroma_planes.ensures.pixels in
    ap (λ xs. xs ++ chroma_pixels c.args.format (option_map table_of c.store_chroma_planes.new.u_plane)
    (option_map table_of c.store_chroma_planes.new.v_plane)) first
    ∙ ap (λ xs. shown_pixels form unused (length luma) (take at bytes) ++ xs) second
    ∙ shown-parts form unused (length luma) (length chroma) at bytes cut
    ∙ ap (λ n. shown_pixels form unused n bytes) (sym (length-append luma chroma))
