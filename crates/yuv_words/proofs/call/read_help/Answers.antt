-- The argument after `--version` is one too many.
use Rattle.std.proofs.Common.{drop, inl, inr, refl, rules}
use Rattle.std.proofs.lemmas.Result.{err_from_is_err_and}
use Rattle.yuv_words.specs.Words.{texts_of}
use Rattle.yuv_words.proofs.Callings.{only_help}
use Rattle.yuv_words.proofs.Texts.{texts_first}
use Rattle.yuv_words.proofs.call.read_help.Goals as goal

pub returns-in-len1-up-clause-fault : goal.returns-in-len1-up-clause-fault
returns-in-len1-up-clause-fault c = inr (
  c.args.first.now,
  texts_of c.args.rest.now,
  refl,
  inr (inr (inl (
    c.is_version.ensures.0 (search rules),
    (texts_of (drop 1 c.args.rest.now), texts_first c.args.rest.now _ c.in-len1-up.len_at_least),
  ))),
)

pub returns-in_err-topic-clause-refused : goal.returns-in_err-topic-clause-refused
returns-in_err-topic-clause-refused c =
    let p = err_from_is_err_and c.from_residual.result c.from_residual.ensures.1 in
    rw p.1 (only_help c.args.first.now (texts_of c.args.rest.now) c.requires (c.is_help.ensures.0 (search rules))
    c.in_err-topic.ensures.refused)
