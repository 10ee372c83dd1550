-- The two chroma planes have the same size, and each earlier test has its status.
use Rattle.std.proofs.Common.{◌≡◌, true, false, length, refl, arith, rules}
use Rattle.std.proofs.lemmas.Bool.{false_from_ne_true}
use Rattle.std.proofs.lemmas.Bool.Decides.{nat_tests}
use Rattle.std.proofs.lemmas.Grind.{common_steps}
use Rattle.v_frame_raster.proofs.tables.StridedWrites.{rest_same}
use Rattle.v_frame_slices.specs.Layout.{fits}
use Rattle.v_frame_slices.specs.Numbers.{is_depth}
use Rattle.v_frame_slices.specs.SemiPlanar.{have_layout, is_semi_planar}
use Rattle.v_frame_slices.proofs.Statuses.{fifth_fails, sizes_fail}
use Rattle.v_frame_slices.proofs.top_bits.from_top_bits.Goals as goal

pub returns : goal.returns
returns c =
    let wide : c.args.v_rows.now.width ≡ c.args.u_rows.now.width = grind (arith, nat_tests) in
    let high : c.args.v_rows.now.height ≡ c.args.u_rows.now.height = grind (arith, nat_tests) in
    record {
      made = record {
        answer = first_of (search rules, grind (arith, common_steps));
        luma = λ ok. rw (← c.in-Some.ensures.rows.1) c.lower.ensures.table;
        chroma = λ ok. rw (wide, high, ← c.in-Some-of.ensures.rows.1) c.lower_apart.ensures.table;
        y_kept = first_of (search rules, grind (arith, common_steps));
        u_kept = first_of (search rules, grind (arith, common_steps));
        v_kept = record { rest = rw (wide, high) c.lower_apart.ensures.second_rest; refused = first_of (search rules, grind (arith, common_steps)) };
      };
    }

pub returns-in_default-of : goal.returns-in_default-of
returns-in_default-of c =
    let known : is_depth 2 c.args.depth ≡ true = first_of (search rules, grind (arith, common_steps)) in
    let format : is_semi_planar c.args.format ≡ true = first_of (search rules, grind (arith, common_steps)) in
    let y_fit : fits c.args.y_rows.now (length c.args.y.now) ≡ true = first_of (search rules, grind (arith, common_steps)) in
    let u_fit : fits c.args.u_rows.now (length c.args.u.now) ≡ true = first_of (search rules, grind (arith, common_steps)) in
    let v_fit : fits c.args.v_rows.now (length c.args.v.now) ≡ true = first_of (search rules, grind (arith, common_steps)) in
    let source_fit : fits c.args.source_rows.now (length c.args.source.now) ≡ true =
    first_of (search rules, grind (arith, common_steps)) in
    let uv_none : fits c.args.uv_rows.now (length c.args.uv.now) ≡ false =
    false_from_ne_true _ c.in_default-of.ensures.rows in
    record {
      made = record {
        answer = fifth_fails _ _ _ _ _ _ _ _ known format y_fit u_fit v_fit source_fit uv_none;
        luma = λ ok. absurd (omega arith);
        chroma = λ ok. absurd (omega arith);
        y_kept = record { rest = rest_same _ _ _ _; refused = λ bad. refl };
        u_kept = record { rest = rest_same _ _ _ _; refused = λ bad. refl };
        v_kept = record { rest = rest_same _ _ _ _; refused = λ bad. refl };
      };
    }

pub returns-then-not-have_layout : goal.returns-then-not-have_layout
returns-then-not-have_layout c =
    let known : is_depth 2 c.args.depth ≡ true = first_of (search rules, grind (arith, common_steps)) in
    let format : is_semi_planar c.args.format ≡ true = first_of (search rules, grind (arith, common_steps)) in
    let y_fit : fits c.args.y_rows.now (length c.args.y.now) ≡ true = first_of (search rules, grind (arith, common_steps)) in
    let u_fit : fits c.args.u_rows.now (length c.args.u.now) ≡ true = first_of (search rules, grind (arith, common_steps)) in
    let v_fit : fits c.args.v_rows.now (length c.args.v.now) ≡ true = first_of (search rules, grind (arith, common_steps)) in
    let source_fit : fits c.args.source_rows.now (length c.args.source.now) ≡ true =
    first_of (search rules, grind (arith, common_steps)) in
    let uv_fit : fits c.args.uv_rows.now (length c.args.uv.now) ≡ true =
    first_of (search rules, grind (arith, common_steps)) in
    let other : have_layout c.args.format c.args.y_rows.now c.args.source_rows.now c.args.uv_rows.now c.args.u_rows.now c.args.v_rows.now
    ≡ false = first_of (search rules, grind (arith, common_steps)) in
    record {
      made = record {
        answer = sizes_fail _ _ _ _ _ _ _ _ known format y_fit u_fit v_fit source_fit uv_fit other;
        luma = λ ok. absurd (omega arith);
        chroma = λ ok. absurd (omega arith);
        y_kept = record { rest = rest_same _ _ _ _; refused = λ bad. refl };
        u_kept = record { rest = rest_same _ _ _ _; refused = λ bad. refl };
        v_kept = record { rest = rest_same _ _ _ _; refused = λ bad. refl };
      };
    }
