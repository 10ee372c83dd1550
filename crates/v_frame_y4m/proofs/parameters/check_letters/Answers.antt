-- One more parameter has a known letter.
use Rattle.std.proofs.Common.{[], arith, rules}
use Rattle.std.proofs.lemmas.Grind.{common_steps}
use mathlib.Core.Logic.{inl}
use Rattle.v_frame_y4m.proofs.Letters.{holds_from, HasLetter}
use Rattle.v_frame_y4m.proofs.parameters.check_letters.Goals as goal

pub loop-parameter-preserved : goal.loop-parameter-preserved
loop-parameter-preserved c = λ rest. c.loop-parameter.invariant
    (holds_from HasLetter c.args.parameters.now c.loop-parameter.parameter-index
    (record { ref_ptr = (0, 0); now = [] }) c.loop-parameter-test.true (c.has_known_letter.ensures.0 (search rules))
    rest)

pub loop-parameter-init : goal.loop-parameter-init
loop-parameter-init c = grind (arith, common_steps)

pub returns-then-not-has_known_letter-clause-error : goal.returns-then-not-has_known_letter-clause-error
returns-then-not-has_known_letter-clause-error c = c.malformed.ensures _
    (inl (grind (arith, common_steps), grind (arith, common_steps)))

pub returns-clause-ok : goal.returns-clause-ok
returns-clause-ok c = grind (arith, common_steps)
