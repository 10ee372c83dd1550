-- The digits so far.
use Rattle.std.proofs.Common.{◌≡◌, ◌++◌, take}
use Rattle.std.specs.Prelude.{map}
use Rattle.std.specs.String.{string_bytes}
use Rattle.yuv_reports.specs.Samples.{digit_at, places}
use Rattle.yuv_reports.proofs.samples.push_checksum.Given as goal

abbrev pub invariant-loop-place : goal.invariant-loop-place
invariant-loop-place l =
    string_bytes l.text ≡ string_bytes l.initial.text ++ map (digit_at l.sum) (take l.place places)
