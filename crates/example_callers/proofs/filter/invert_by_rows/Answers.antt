-- Each row is inverted, so the whole table is.
use Rattle.std.proofs.Common.{◌<◌, ◌-◌, [], length, option_map, sym, ◌∙◌, ap, arith}
use Rattle.std.proofs.lemmas.List.{length-map}
use Rattle.std.proofs.lemmas.Option.{slice_get-map, slice_get-get_or}
use Rattle.v_frame.specs.Prelude.{table_of}
use Rattle.v_frame_ops.specs.Prelude.{mapped}
use Rattle.example_callers.proofs.filter.invert_by_rows.Goals as goal

pub returns-clause-table : goal.returns-clause-table
returns-clause-table c =
    let old = table_of c.args.plane.now in
    let new = table_of c.loop-y.plane in
    let count = c.loop-y.invariant.count in
    let inverted = mapped (λ pixel. 255 - pixel) in
    c.tables_agree_by_rows.ensures new (mapped inverted old) (count ∙ sym (length-map old inverted)) (λ y below.
    let within : y < length old = omega (arith, count) in
    let row = slice_get-get_or old y [] within in
    c.loop-y.invariant.inverted y _ (omega arith) row ∙ sym
    (slice_get-map inverted old y ∙ ap (option_map inverted) row))
