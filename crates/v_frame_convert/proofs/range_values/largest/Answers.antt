-- 2 ^ depth equals 256 units.
use Rattle.std.proofs.Common.{◌≡◌, ◌+◌, ◌-◌, ◌*◌, ◌%◌, ◌^◌, refl}
use Rattle.v_frame_convert.specs.Range.{unit_of}
use Rattle.v_frame_convert.proofs.Depths.{each_depth}
use Rattle.v_frame_convert.proofs.range_values.largest.Goals as goal

pub returns-clause-units : goal.returns-clause-units
returns-clause-units c =
    each_depth (λ depth. 1 * 2 ^ depth % 4294967296 - 1 + 1 ≡ 256 * unit_of depth) refl refl refl refl refl refl refl
    refl refl c.args.depth c.requires.0 c.requires.1
