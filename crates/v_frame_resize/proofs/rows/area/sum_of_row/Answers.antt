-- The shares of the first and the last pixel are added, and the pixels between them in full.
use Rattle.std.proofs.Common.{◌≡◌, ◌+◌, ◌-◌, ◌*◌, ◌^◌, ◌≤◌, ap, ◌∙◌, refl, arith}
use Rattle.std.proofs.Math.Nat.{mul-le-mul_right}
use Rattle.v_frame_resize.proofs.Sums.{head_added, inner_added, tail_added, whole_added, sum_within, sum_fits}
use Rattle.v_frame_resize.proofs.rows.area.sum_of_row.Goals as goal

pub returns-then-last-across-clause-value : goal.returns-then-last-across-clause-value
returns-then-last-across-clause-value g c =
    let head = head_added {count = g.T.Pixel.form.value} {most = 256 ^ g.T.Pixel.BYTES - 1} c.requires.across refl _
    (c.from.ensures ∙ c.into_u16.ensures.value ∙ ap g.T.Pixel.form.value c.index-row-across.is)
    (omega (arith, c.into_u16.ensures.fits)) in
    whole_added c.requires.across refl (omega (arith, c.requires.across.order)) head

pub returns-then-last-across-clause-bound : goal.returns-then-last-across-clause-bound
returns-then-last-across-clause-bound g c =
    sum_within (head_added {count = g.T.Pixel.form.value} {most = 256 ^ g.T.Pixel.BYTES - 1} c.requires.across refl _
    (c.from.ensures ∙ c.into_u16.ensures.value ∙ ap g.T.Pixel.form.value c.index-row-across.is)
    (omega (arith, c.into_u16.ensures.fits)))

pub loop-i-init : goal.loop-i-init
loop-i-init g c =
    let none : c.args.across.head * c.from.result + c.args.width * 0 ≡ c.args.across.head * c.from.result = omega
    arith in
    rw none (head_added c.requires.across refl _
    (c.from.ensures ∙ c.into_u16.ensures.value ∙ ap g.T.Pixel.form.value c.index-row-across.is)
    (omega (arith, c.into_u16.ensures.fits)))

pub loop-i-preserved : goal.loop-i-preserved
loop-i-preserved g c =
    inner_added c.requires.across refl _ _ _ (omega arith) (omega arith)
    (c.from-inner.ensures ∙ c.into_u16-in-loop-i.ensures.value ∙ ap g.T.Pixel.form.value c.index-row-i.is)
    (omega (arith, c.into_u16-in-loop-i.ensures.fits)) c.loop-i.invariant

pub overflow_add-inner : goal.overflow_add-inner
overflow_add-inner g c =
    let next = inner_added c.requires.across refl _ _ _ (omega arith) (omega arith)
    (c.from-inner.ensures ∙ c.into_u16-in-loop-i.ensures.value ∙ ap g.T.Pixel.form.value c.index-row-i.is)
    (omega (arith, c.into_u16-in-loop-i.ensures.fits)) c.loop-i.invariant in
    let fits = sum_fits g.met.T.Pixel.byte_or_two g.met.T.Pixel.bytes_of_form c.requires.small (sum_within next) in
    let some : 1 ≤ c.args.width = omega (arith, c.requires.across.first.before, c.requires.across.first.begins) in
    omega (arith, fits, mul-le-mul_right (c.loop-i.inner + c.from-inner.result) some)

pub overflow_add-result : goal.overflow_add-result
overflow_add-result g c =
    let within = sum_within c.loop-i.invariant in
    omega (arith, sum_fits g.met.T.Pixel.byte_or_two g.met.T.Pixel.bytes_of_form c.requires.small within)

pub overflow_mul-result : goal.overflow_mul-result
overflow_mul-result g c =
    let within = sum_within c.loop-i.invariant in
    omega (arith, sum_fits g.met.T.Pixel.byte_or_two g.met.T.Pixel.bytes_of_form c.requires.small within)

pub overflow_add-result-2 : goal.overflow_add-result-2
overflow_add-result-2 g c =
    let whole = tail_added c.requires.across refl _ (omega arith)
    (c.from-2.ensures ∙ c.into_u16-2.ensures.value ∙ ap g.T.Pixel.form.value c.index-row-last.is)
    (omega (arith, c.into_u16-2.ensures.fits)) c.loop-i.invariant in
    omega (arith, sum_fits g.met.T.Pixel.byte_or_two g.met.T.Pixel.bytes_of_form c.requires.small (sum_within whole))

pub overflow_mul-result-2 : goal.overflow_mul-result-2
overflow_mul-result-2 g c =
    let whole = tail_added c.requires.across refl _ (omega arith)
    (c.from-2.ensures ∙ c.into_u16-2.ensures.value ∙ ap g.T.Pixel.form.value c.index-row-last.is)
    (omega (arith, c.into_u16-2.ensures.fits)) c.loop-i.invariant in
    omega (arith, sum_fits g.met.T.Pixel.byte_or_two g.met.T.Pixel.bytes_of_form c.requires.small (sum_within whole))

pub returns-clause-value : goal.returns-clause-value
returns-clause-value g c =
    let whole = tail_added c.requires.across refl _ (omega arith)
    (c.from-2.ensures ∙ c.into_u16-2.ensures.value ∙ ap g.T.Pixel.form.value c.index-row-last.is)
    (omega (arith, c.into_u16-2.ensures.fits)) c.loop-i.invariant in
    whole_added c.requires.across refl refl whole

pub returns-clause-bound : goal.returns-clause-bound
returns-clause-bound g c =
    sum_within (tail_added c.requires.across refl _ (omega arith)
    (c.from-2.ensures ∙ c.into_u16-2.ensures.value ∙ ap g.T.Pixel.form.value c.index-row-last.is)
    (omega (arith, c.into_u16-2.ensures.fits)) c.loop-i.invariant)
