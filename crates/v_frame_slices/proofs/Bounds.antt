-- A picture that fits has a border that can be counted.
use Rattle.std.proofs.Common.{ℕ, ◌*◌, ◌^◌, ◌<◌, ◌≤◌, IsTrue, arith}
use Rattle.std.proofs.Math.Nat.{le-mul_of_pos_right}
use Rattle.std.proofs.lemmas.Bool.Decides.{nat_tests}
use Rattle.v_frame.specs.Prelude.{alloc_size_of, isize_max}
use Rattle.v_frame_slices.specs.FrameParts.{evenly_bordered}
use Rattle.v_frame_slices.specs.Layout.{geometry_in, is_bordered}

module _ (width height across down n : ℕ) (is : IsTrue (is_bordered (evenly_bordered width height across down) n)) where
  wide : 0 < width
  wide = grind (arith, nat_tests)

  high : 0 < height
  high = grind (arith, nat_tests)

  limited : 2 * alloc_size_of (geometry_in (evenly_bordered width height across down)) ≤ isize_max
  limited = grind (arith, nat_tests)

  pub across_is_counted : across < 2 ^ 64
  across_is_counted = omega (arith, limited, le-mul_of_pos_right across high)

  pub down_is_counted : down < 2 ^ 64
  down_is_counted = omega (arith, limited, le-mul_of_pos_right down wide)
