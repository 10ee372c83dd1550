-- The three planes have the same size.
use Rattle.std.proofs.Common.{◌≡◌, arith, rules}
use Rattle.std.proofs.lemmas.Bool.Decides.{nat_tests}
use Rattle.std.proofs.lemmas.Grind.{common_steps}
use Rattle.v_frame_slices.proofs.samples.of_rgb.Goals as goal

pub returns : goal.returns
returns c =
    let wide : c.args.u_rows.now.width ≡ c.args.y_rows.now.width = grind (arith, nat_tests) in
    let high : c.args.u_rows.now.height ≡ c.args.y_rows.now.height = grind (arith, nat_tests) in
    let v_wide : c.args.v_rows.now.width ≡ c.args.y_rows.now.width = grind (arith, nat_tests) in
    let v_high : c.args.v_rows.now.height ≡ c.args.y_rows.now.height = grind (arith, nat_tests) in
    record {
      made = record {
        answer = first_of (search rules, grind (arith, common_steps));
        luma = first_of (search rules, grind (arith, common_steps));
        chroma_u = λ ok. rw (wide, high, ← c.in-Some.ensures.1, ← c.in-Some-of.ensures.rows.1) c.write_samples.ensures.chroma_u;
        chroma_v = λ ok. rw (v_wide, v_high, ← c.in-Some.ensures.1, ← c.in-Some-of.ensures.rows.1) c.write_samples.ensures.chroma_v;
        y_kept = first_of (search rules, grind (arith, common_steps));
        u_kept = first_of (search rules, grind (arith, common_steps));
        v_kept = first_of (search rules, grind (arith, common_steps));
      };
    }
