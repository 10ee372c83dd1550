-- The sums of the bytes so far, and upper bounds of them.
use Rattle.std.proofs.Common.{◌≡◌, ◌+◌, ◌*◌, ◌≤◌, take}
use Rattle.v_frame_png.specs.Adler.{sums_from}
use Rattle.v_frame_png.proofs.adler.Adler32.add_few.Given as goal

abbrev pub invariant-loop-byte : goal.invariant-loop-byte
invariant-loop-byte l = record {
  sums : (l.first, l.second) ≡ sums_from (l.self.first, l.self.second) (take l.byte-index l.bytes);
  first : l.first ≤ 65520 + 255 * l.byte-index;
  second : 2 * l.second ≤ 131040 * (l.byte-index + 1) + 255 * (l.byte-index * l.byte-index + l.byte-index);
}
