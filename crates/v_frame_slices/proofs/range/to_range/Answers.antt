-- The component has the given number, and the source is the picture of its rows.
use Rattle.std.proofs.Common.{arith, rules}
use Rattle.std.proofs.lemmas.Grind.{common_steps}
use Rattle.v_frame_slices.proofs.range.to_range.Goals as goal

pub returns-then-full : goal.returns-then-full
returns-then-full g c = record {
  made = record {
    answer = first_of (search rules, grind (arith, common_steps));
    written = λ ok. rw (c.if-full.true, ← c.in-Some.ensures.1, ← c.in-Some-of.ensures.rows.1) c.to_full_range.ensures.table;
    rest = first_of (search rules, grind (arith, common_steps));
    refused = first_of (search rules, grind (arith, common_steps));
  };
}

pub returns : goal.returns
returns g c = record {
  made = record {
    answer = first_of (search rules, grind (arith, common_steps));
    written = λ ok. rw (c.if-full.false, ← c.in-Some.ensures.1, ← c.in-Some-of.ensures.rows.1) c.to_limited_range.ensures.table;
    rest = first_of (search rules, grind (arith, common_steps));
    refused = first_of (search rules, grind (arith, common_steps));
  };
}
