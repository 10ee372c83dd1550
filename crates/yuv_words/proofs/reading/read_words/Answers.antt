-- The arguments are those before the current one, the current one and those after it.
use Rattle.std.proofs.Common.{take, drop, ◌+◌, subst, sym}
use Rattle.std.proofs.lemmas.Result.{err_from_is_err_and}
use Rattle.std.specs.Prelude.{List, ℕ}
use Rattle.yuv_words.specs.Faults.{HasWordFault}
use Rattle.yuv_words.specs.Words.{texts_of}
use Rattle.yuv_words.proofs.Texts.{texts_split}
use Rattle.yuv_words.proofs.reading.read_words.Goals as goal

pub returns-in_err-take-clause-fault : goal.returns-in_err-take-clause-fault
returns-in_err-take-clause-fault c =
    let p = err_from_is_err_and c.from_residual.result c.from_residual.ensures.1 in
    rw (p.1, p.2) (subst (λ (words : List (List ℕ)). HasWordFault c.args.command words c.in_err-take.field-0.0)
    (sym (texts_split c.args.words.now c.loop-word.word-index _ c.loop-word-test.true))
    (c.in_err-take.ensures.fault (texts_of (take c.loop-word.word-index c.args.words.now))
    (texts_of (drop (c.loop-word.word-index + 1) c.args.words.now)) c.loop-word.invariant))
