-- The contract of the copy of rows implies the one of the pictures.
use Rattle.std.proofs.Common.{arith, rules}
use Rattle.std.proofs.lemmas.Grind.{common_steps}
use Rattle.std.proofs.lemmas.Int.{ints}
use Rattle.v_frame_slices.proofs.clipped.copy_clipped.Goals as goal

pub returns : goal.returns
returns g c = record {
  made = record {
    answer = first_of (search rules, grind (arith, common_steps));
    written = λ _. rw (← c.in-Some.ensures.rows.1) (record {
      inside = λ i j k l wide high wide1 high1 on.
          c.copy_region_clipped.ensures.inside i j k l (omega (arith, wide, c.in-Some.ensures.width))
          (omega (arith, high, c.in-Some.ensures.height)) wide1 high1
          (record {
            across = omega (arith, ints, on.across, c.ranges.x);
            down = omega (arith, ints, on.down, c.ranges.y);
          });
      beside = λ k l _ _ none.
          c.copy_region_clipped.ensures.beside k l (λ i j across down on. none i j
          (omega (arith, across, c.in-Some.ensures.width)) (omega (arith, down, c.in-Some.ensures.height))
          (record {
            across = omega (arith, ints, on.across, c.ranges.x);
            down = omega (arith, ints, on.down, c.ranges.y);
          }));
    });
    rest = first_of (search rules, grind (arith, common_steps));
    refused = first_of (search rules, grind (arith, common_steps));
  };
}
