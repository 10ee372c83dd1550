-- The number of pixels of both planes together.
use Rattle.std.proofs.Common.{◌≡◌, ◌*◌, length, sym, ◌∙◌, ap, arith}
use Rattle.v_frame.specs.Prelude.{row_major, table_of}
use Rattle.v_frame_ops.specs.Change.{combined}
use Rattle.v_frame_semi_planar.specs.Interleaved.{interleaved}
use Rattle.v_frame_semi_planar.specs.SemiPlanar.{shown_pixels}
use Rattle.v_frame_semi_planar.proofs.CombinedLists.{length-row_major}
use Rattle.v_frame_semi_planar.proofs.Interleaving.{pixels_by_turns}
use Rattle.v_frame_semi_planar.proofs.storing.store_pair.Goals as goal

pub store_chroma-requires-clause-long : goal.store_chroma-requires-clause-long
store_chroma-requires-clause-long g c κs within =
    let us = table_of c.args.first.now in let vs = table_of c.args.second.now in
    let w = c.args.first.now.geometry.width in let h = c.args.first.now.geometry.height in
    let same : c.width-2.result ≡ c.width.result =
    c.width-2.ensures.table ∙ sym (ap (λ p. p.0) c.requires.same) ∙ sym c.width.ensures.table in
    let rows = rw same at c.width-2.ensures.rows in
    let high = ap (λ p. p.1) c.requires.same in
    let turns = pixels_by_turns c.width.result us vs c.width.ensures.rows rows high in
    let count = length-row_major c.width.result us c.width.ensures.rows in
    let second_count = length-row_major c.width.result vs rows in
    let first_high : length us ≡ h = sym c.height.ensures.table ∙ c.height.ensures.value in
    let second_high : length vs ≡ h = sym high ∙ first_high in
    let all : length (row_major (combined interleaved us vs)) ≡ h * (2 * w) =
    turns ∙ rw (count, second_count, first_high, second_high, c.width.ensures.value) (omega arith) in
    c.requires.long ∙ rw all (omega arith)

pub returns-clause-pixels : goal.returns-clause-pixels
returns-clause-pixels g c =
    let us = table_of c.args.first.now in let vs = table_of c.args.second.now in
    let w = c.args.first.now.geometry.width in let h = c.args.first.now.geometry.height in
    let same : c.width-2.result ≡ c.width.result =
    c.width-2.ensures.table ∙ sym (ap (λ p. p.0) c.requires.same) ∙ sym c.width.ensures.table in
    let rows = rw same at c.width-2.ensures.rows in
    let high = ap (λ p. p.1) c.requires.same in
    let turns = pixels_by_turns c.width.result us vs c.width.ensures.rows rows high in
    let count = length-row_major c.width.result us c.width.ensures.rows in
    let second_count = length-row_major c.width.result vs rows in
    let first_high : length us ≡ h = sym c.height.ensures.table ∙ c.height.ensures.value in
    let second_high : length vs ≡ h = sym high ∙ first_high in
    let all : length (row_major (combined interleaved us vs)) ≡ h * (2 * w) =
    turns ∙ rw (count, second_count, first_high, second_high, c.width.ensures.value) (omega arith) in
    c.store_chroma.ensures.pixels
    ∙ ap (λ n. shown_pixels g.T.Pixel.form c.args.unused n c.args.bytes.now) (sym all)
