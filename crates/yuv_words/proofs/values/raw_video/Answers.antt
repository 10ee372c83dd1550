-- The text after the size is split in the same way for all headerless videos.
use Rattle.std.proofs.Common.{subst, sym}
use Rattle.yuv_words.specs.Values.{SpellsFormat}
use Rattle.yuv_words.proofs.Cuts.{colon_apart, rest_is, x_apart}
use Rattle.yuv_words.proofs.values.raw_video.Goals as goal

pub returns-in_err-height : goal.returns-in_err-height
returns-in_err-height c = rw c.from_residual-in_err-height.ensures (λ raw is.
    let width = rest_is 120 x_apart c.args.text.now c.in_ok-width.rest.now c.in_ok-width.width raw.width _
    c.in_ok-width.ensures is.width is.spelled in
    c.in_err-height.ensures raw.height _ is.height width)

pub returns-in_err-format : goal.returns-in_err-format
returns-in_err-format c = rw c.from_residual-in_err-format.ensures (λ raw is.
    let width = rest_is 120 x_apart c.args.text.now c.in_ok-width.rest.now c.in_ok-width.width raw.width _
    c.in_ok-width.ensures is.width is.spelled in
    let height = rest_is 58 colon_apart c.in_ok-width.rest.now c.in_ok-height.rest.now c.in_ok-height.height raw.height _
    c.in_ok-height.ensures is.height width in
    c.in_err-format.ensures raw.format raw.full_range raw.rate
    (subst (SpellsFormat raw.format raw.full_range raw.rate) (sym height) is.format))
