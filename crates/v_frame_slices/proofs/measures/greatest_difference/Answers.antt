-- The pictures are those of the rows, and the difference is the same in 32 bits.
use Rattle.std.proofs.Common.{ℕ, subst, sym, arith, rules}
use Rattle.std.proofs.lemmas.Grind.{common_steps}
use Rattle.v_frame.specs.Prelude.{Table}
use Rattle.v_frame_measures.specs.Prelude.{IsGreatestDifference}
use Rattle.v_frame_measures.specs.declared.differences.GreatestDifference.{GreatestDifference}
use Rattle.v_frame_slices.specs.Layout.{picture}
use Rattle.v_frame_slices.proofs.measures.greatest_difference.Goals as goal

pub returns : goal.returns
returns g c =
    let value = g.T.Pixel.form.value in
    let greatest = c.greatest_difference-greatest.result in
    let first = picture c.args.a_rows.now c.args.a.now in
    let second = picture c.args.b_rows.now c.args.b.now in
    let by_first = subst (λ (t : Table g.row.T.Denot). IsGreatestDifference value t c.in-Some-of.second greatest)
    c.in-Some.ensures.rows.1 c.greatest_difference-greatest.ensures in
    let by_second = subst (λ (t : Table g.row.T.Denot). IsGreatestDifference value first t greatest)
    c.in-Some-of.ensures.rows.1 by_first in
    record {
      finds = record {
        answer = first_of (search rules, grind (arith, common_steps));
        found = λ _. subst (λ (n : ℕ). let found : GreatestDifference = record { difference = n; x = greatest.x; y = greatest.y } in
            IsGreatestDifference value first second found) (sym c.from.ensures) by_second;
        refused = first_of (search rules, grind (arith, common_steps));
      };
    }
