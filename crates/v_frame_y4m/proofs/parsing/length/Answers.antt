-- W and H may occur only once.
use Rattle.std.proofs.Common.{arith, ◌≡◌, ◌∷◌, List, ℕ, drop, rules, subst, sym}
use Rattle.std.proofs.lemmas.Grind.{common_steps}
use Rattle.v_frame_y4m.specs.Faults.{AreDigits}
use Rattle.v_frame_y4m.proofs.Letters.{sizes_once}
use Rattle.v_frame_y4m.proofs.parsing.length.Goals as goal

pub unique_parameter-requires : goal.unique_parameter-requires
unique_parameter-requires c = sizes_once c.args.letter c.requires

pub returns-in_ok-new-in-None-clause-error : goal.returns-in_ok-new-in-None-clause-error
returns-in_ok-new-in-None-clause-error c =
    let whole : c.in_ok-new-in-None.field-0.bytes ≡ c.args.letter ∷ c.in-Some.digits.now = search rules in (
      search rules,
      subst (λ (bytes : List ℕ). AreDigits (drop 1 bytes)) (sym whole)
          (c.are_digits.ensures.0 (search rules)),
    )

pub returns-in_default-clause-error : goal.returns-in_default-clause-error
returns-in_default-clause-error c = grind (arith, common_steps)

pub returns-in-Some-eq0-clause-error : goal.returns-in-Some-eq0-clause-error
returns-in-Some-eq0-clause-error c = grind (arith, common_steps)

pub returns-in-Some-number-clause-ok : goal.returns-in-Some-number-clause-ok
returns-in-Some-number-clause-ok c = grind (arith, common_steps)

pub returns-in_err-text-clause-error : goal.returns-in_err-text-clause-error
returns-in_err-text-clause-error c = grind (arith, common_steps)
