-- A pixel is before the picture, inside it, or after it.
use Rattle.std.proofs.Common.{◌≡◌, ◌+◌, ◌-◌, refl, sym, ◌∙◌, ⊎_elim, arith}
use Rattle.std.proofs.lemmas.Bool.{cases_lt}
use Rattle.std.proofs.lemmas.Option.{slice_get_read}
use Rattle.v_frame_ops.specs.Border.{nearest}
use Rattle.v_frame_ops.proofs.border.extend_row.Goals as goal

pub returns : goal.returns
returns g c = λ x within.
    let left = c.args.left in
    let end = left + c.args.width in
    let place = left + nearest left c.args.width x in
    let first = slice_get_read c.args.row.now _ left c.index-row-left.result refl (omega arith) c.index-row-left.is in
    let last = slice_get_read c.args.row.now _ (end - 1) c.index-row-left-2.result refl (omega arith)
    c.index-row-left-2.is in
    ⊎_elim
    (λ before.
    let e : place ≡ left = omega arith in
    c.fill_part-2.ensures.before x (omega arith) ∙ c.fill_part.ensures.inside x (omega arith) before ∙ rw e (sym first))
    (λ from. ⊎_elim
    (λ among.
    let e : place ≡ x = omega arith in
    c.fill_part-2.ensures.before x among ∙ c.fill_part.ensures.behind x from ∙ rw e refl)
    (λ behind.
    let e : place ≡ end - 1 = omega arith in
    c.fill_part-2.ensures.inside x behind (omega arith) ∙ rw e (sym last))
    (cases_lt x end))
    (cases_lt x left)
