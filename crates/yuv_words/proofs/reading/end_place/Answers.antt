-- The first `--` is found.
use Rattle.std.proofs.Common.{below_more, ◌∙◌, sym, arith}
use Rattle.yuv_words.proofs.Texts.{end_found, end_here, end_missing}
use Rattle.yuv_words.proofs.reading.end_place.Goals as goal

pub loop-at-preserved : goal.loop-at-preserved
loop-at-preserved c = below_more _ _ c.loop-at.invariant
    (end_here c.args.words.now c.loop-at.at _ c.loop-at-test.true (sym c.is_end_word.ensures ∙ c.if-is_end_word.false))

pub returns-then-is_end_word-clause-place : goal.returns-then-is_end_word-clause-place
returns-then-is_end_word-clause-place c =
    end_found c.args.words.now c.loop-at.at _ c.loop-at-test.true c.loop-at.invariant
    (sym c.is_end_word.ensures ∙ c.if-is_end_word.true)

pub returns-clause-place : goal.returns-clause-place
returns-clause-place c =
    end_missing c.args.words.now c.loop-at.at (omega (arith, c.loop-at-test.false, c.loop-at.auto.at-end)) c.loop-at.invariant
