-- The rows that are written are those of the two planes, which have the same size.
use Rattle.std.proofs.Common.{◌≡◌, sym, ◌∙◌}
use Rattle.v_frame_semi_planar.proofs.chroma.deinterleave.Goals as goal

pub returns-clause-table : goal.returns-clause-table
returns-clause-table g c =
    let lent = c.visible_mut-entries.ensures in let other = c.visible_mut-others.ensures in
    let wide : c.visible_mut-others.result.width ≡ c.visible_mut-entries.result.width =
    other.width ∙ c.requires.second_wide ∙ sym lent.width in
    let high : c.visible_mut-others.result.height ≡ c.visible_mut-entries.result.height =
    other.height ∙ c.requires.second_high ∙ sym lent.height in
    let first = lent.written c.deinterleave.new.first c.deinterleave.ensures.first_rest.count in
    let second = other.written c.deinterleave.new.second c.deinterleave.ensures.second_rest.count in
    cc (first, second, wide, high, c.deinterleave.ensures.table, c.as_rows_ref-source.ensures.value)
