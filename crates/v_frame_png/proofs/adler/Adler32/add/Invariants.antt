-- Adding the remaining bytes gives the sums of all bytes.
use Rattle.std.proofs.Common.{◌≡◌, length}
use Rattle.v_frame_png.specs.Adler.{reduced, sums_from}
use Rattle.v_frame_png.proofs.adler.Adler32.add.Given as goal

abbrev pub invariant-loop-ahead : goal.invariant-loop-ahead
invariant-loop-ahead l =
    reduced (sums_from (l.self.first, l.self.second) l.ahead)
    ≡ reduced (sums_from (l.fn.self.first, l.fn.self.second) l.bytes)

abbrev pub decreases-loop-ahead : goal.decreases-loop-ahead
decreases-loop-ahead l = length l.ahead
