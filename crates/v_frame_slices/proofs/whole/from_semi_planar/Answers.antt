-- The two chroma planes have the same size.
use Rattle.std.proofs.Common.{◌≡◌, arith, rules}
use Rattle.std.proofs.lemmas.Bool.Decides.{nat_tests}
use Rattle.std.proofs.lemmas.Grind.{common_steps}
use Rattle.v_frame_slices.proofs.whole.from_semi_planar.Goals as goal

pub returns : goal.returns
returns g c =
    let wide : c.args.v_rows.now.width ≡ c.args.u_rows.now.width = grind (arith, nat_tests) in
    let high : c.args.v_rows.now.height ≡ c.args.u_rows.now.height = grind (arith, nat_tests) in
    record {
      made = record {
        answer = first_of (search rules, grind (arith, common_steps));
        luma = first_of (search rules, grind (arith, common_steps));
        chroma = λ ok. rw (wide, high, ← c.in-Some-of.ensures.rows.1) c.deinterleave.ensures.table;
        y_kept = first_of (search rules, grind (arith, common_steps));
        u_kept = first_of (search rules, grind (arith, common_steps));
        v_kept = record { rest = rw (wide, high) c.deinterleave.ensures.second_rest; refused = first_of (search rules, grind (arith, common_steps)) };
      };
    }
