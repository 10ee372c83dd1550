-- The text after the numbers so far is split in the same way for all rectangles.
use Rattle.yuv_words.proofs.Cuts.{comma_apart, rest_is}
use Rattle.yuv_words.proofs.values.rectangle.Goals as goal

pub returns-in_err-y : goal.returns-in_err-y
returns-in_err-y c = rw c.from_residual-in_err-y.ensures (λ r is.
    let x = rest_is 44 comma_apart c.args.text.now c.in_ok-x.rest.now c.in_ok-x.x r.x _ c.in_ok-x.ensures is.1.x is.0 in
    c.in_err-y.ensures r.y _ is.1.y x)

pub returns-in_err-width : goal.returns-in_err-width
returns-in_err-width c = rw c.from_residual-in_err-width.ensures (λ r is.
    let x = rest_is 44 comma_apart c.args.text.now c.in_ok-x.rest.now c.in_ok-x.x r.x _ c.in_ok-x.ensures is.1.x is.0 in
    let y = rest_is 44 comma_apart c.in_ok-x.rest.now c.in_ok-y.rest.now c.in_ok-y.y r.y _ c.in_ok-y.ensures is.1.y x in
    c.in_err-width.ensures r.width _ is.1.width y)

pub returns-in_err-height : goal.returns-in_err-height
returns-in_err-height c = rw c.from_residual-in_err-height.ensures (λ r is.
    let x = rest_is 44 comma_apart c.args.text.now c.in_ok-x.rest.now c.in_ok-x.x r.x _ c.in_ok-x.ensures is.1.x is.0 in
    let y = rest_is 44 comma_apart c.in_ok-x.rest.now c.in_ok-y.rest.now c.in_ok-y.y r.y _ c.in_ok-y.ensures is.1.y x in
    let width = rest_is 44 comma_apart c.in_ok-y.rest.now c.in_ok-width.rest.now c.in_ok-width.width r.width _
    c.in_ok-width.ensures is.1.width y in
    c.in_err-height.ensures r.height (width, is.1.height))
