-- The lines processed so far are added.
use Rattle.std.proofs.Common.{◌≡◌, ◌+◌, ◌*◌, map, min}
use Rattle.std.specs.List.{range_with_len}
use Rattle.std.specs.Float.Ieee.{binary64}
use Rattle.v_frame_measures.specs.Ssim.{constants_of, line_format, line_of, peak_of, total}
use Rattle.v_frame_measures.proofs.similarity.mean_in.Given as goal

abbrev pub invariant-loop-band : goal.invariant-loop-band
invariant-loop-band g l = l.sum ≡ total binary64 (map
    (line_of g.T.Pixel.form (constants_of (peak_of l.bit_depth)) l.a l.b (line_format g.T.Pixel.form.size))
    (range_with_len 0 (min (32 * l.band) l.narrow)))

abbrev pub invariant-loop-k : goal.invariant-loop-k
invariant-loop-k g l = l.sum ≡ total binary64 (map
    (line_of g.T.Pixel.form (constants_of (peak_of l.bit_depth)) l.a l.b (line_format g.T.Pixel.form.size))
    (range_with_len 0 (32 * l.band + l.k)))

abbrev pub invariant-loop-y : goal.invariant-loop-y
invariant-loop-y g l = l.sum ≡ total binary64 (map
    (line_of g.T.Pixel.form (constants_of (peak_of l.bit_depth)) l.a l.b (line_format g.T.Pixel.form.size))
    (range_with_len 0 l.y))
