-- A text with an at sign is split there.
use Rattle.std.proofs.Common.{lit<}
use Rattle.std.specs.Prelude.{None, Some}
use Rattle.std.proofs.lemmas.Str.Pattern.{split_parts}
use Rattle.yuv_words.proofs.Said.{format_cut, no_format}
use Rattle.yuv_words.proofs.values.format_and_rate.Goals as goal

pub returns-in_err-format-in-Some : goal.returns-in_err-format-in-Some
returns-in_err-format-in-Some c = rw c.from_residual.ensures (λ format full rate is.
    let parts = split_parts 64 c.args.text.now (Some (c.in-Some.name, c.in-Some.rate)) c.in-Some.ensures.cases (lit< tt) in
    let cut = format_cut format full rate c.args.text.now c.in-Some.name.now c.in-Some.rate.now parts.1 parts.0 is in
    c.in_err-format-in-Some.ensures format full cut.format)

pub returns-in_err-rate-in-Some : goal.returns-in_err-rate-in-Some
returns-in_err-rate-in-Some c = rw c.from_residual-in_err-rate-in-Some.ensures (λ format full rate is.
    let parts = split_parts 64 c.args.text.now (Some (c.in-Some.name, c.in-Some.rate)) c.in-Some.ensures.cases (lit< tt) in
    let cut = format_cut format full rate c.args.text.now c.in-Some.name.now c.in-Some.rate.now parts.1 parts.0 is in
    c.in_err-rate-in-Some.ensures cut.rate cut.spelled)

pub returns-in_err-format-in-None : goal.returns-in_err-format-in-None
returns-in_err-format-in-None c = rw c.from_residual-in_err-format-in-None.ensures (no_format c.args.text.now
    (split_parts 64 c.args.text.now None c.in-None.ensures.cases (lit< tt)) c.in_err-format-in-None.ensures)
