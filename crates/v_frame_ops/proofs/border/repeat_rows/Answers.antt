-- A row is above the picture, inside it, or below it.
use Rattle.std.proofs.Common.{◌≡◌, ◌+◌, ◌-◌, refl, ◌∙◌, ⊎_elim, arith}
use Rattle.std.proofs.lemmas.Bool.{cases_lt}
use Rattle.v_frame_ops.specs.Border.{nearest}
use Rattle.v_frame_ops.proofs.border.repeat_rows.Goals as goal

pub returns : goal.returns
returns g c = λ y high.
    let top = c.args.top in
    let end = top + c.args.height in
    let row = top + nearest top c.args.height y in
    ⊎_elim
    (λ above.
    let e : row ≡ top = omega arith in
    c.repeat_row_down.ensures.others y (omega arith) ∙ c.repeat_row_up.ensures.above y above ∙ rw e refl)
    (λ from. ⊎_elim
    (λ among.
    let e : row ≡ y = omega arith in
    c.repeat_row_down.ensures.others y among ∙ c.repeat_row_up.ensures.others y from ∙ rw e refl)
    (λ below.
    let e : row ≡ end - 1 = omega arith in
    c.repeat_row_down.ensures.below y below high ∙ c.repeat_row_up.ensures.others (end - 1) (omega arith) ∙ rw e refl)
    (cases_lt y end))
    (cases_lt y top)
