-- The number of bytes of both planes.
use Rattle.std.proofs.Common.{◌≡◌, ◌*◌, sym, ◌∙◌, ap, arith}
use Rattle.v_frame.specs.Prelude.{row_major, table_of}
use Rattle.v_frame_semi_planar.proofs.Interleaving.{pixels_by_turns}
use Rattle.v_frame_semi_planar.proofs.Stored.{length-bytes}
use Rattle.v_frame_semi_planar.proofs.length.pair_len.Goals as goal

pub returns : goal.returns
returns g c =
    let us = table_of c.args.first.now in let vs = table_of c.args.second.now in
    let form = g.T.Pixel.form in
    let same : c.width-2.result ≡ c.width.result =
    c.width-2.ensures.table ∙ sym (ap (λ p. p.0) c.requires) ∙ sym c.width.ensures.table in
    let turns = pixels_by_turns c.width.result us vs c.width.ensures.rows (rw same at c.width-2.ensures.rows)
    (ap (λ p. p.1) c.requires) in
    omega (
      arith,
      ap (λ n. form.size * n) turns,
      length-bytes form 0 (row_major us),
      length-bytes form 0 (row_major vs),
      c.byte_len.ensures.bytes,
      c.byte_len-2.ensures.bytes,
    )
