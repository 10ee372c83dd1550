-- The source is the picture of its rows.
use Rattle.std.proofs.Common.{arith, rules}
use Rattle.std.proofs.lemmas.Grind.{common_steps}
use Rattle.v_frame_slices.proofs.change.downscale.Goals as goal

pub returns : goal.returns
returns g c =
    let is = c.in-Some.ensures.rows.1 in
    record {
      made = record {
        answer = first_of (search rules, grind (arith, common_steps));
        written = λ ok y top bottom upper lower. c.downscale.ensures.rows y top bottom (rw is upper) (rw is lower);
        rest = first_of (search rules, grind (arith, common_steps));
        refused = first_of (search rules, grind (arith, common_steps));
      };
    }
