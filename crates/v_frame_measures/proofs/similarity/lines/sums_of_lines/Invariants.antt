-- In each line, the windows of the strips processed so far are added.
use Rattle.std.proofs.Common.{ℕ, ◌≡◌, ◌+◌, ◌*◌, ◌≤◌, ◌<◌, get_or, length, map}
use Rattle.std.specs.List.{range_with_len}
use Rattle.std.specs.Float.{float_zero}
use Rattle.v_frame_measures.specs.BlockSums.{AreBlockSums}
use Rattle.v_frame_measures.specs.Ssim.{total, window_at}
use Rattle.v_frame_measures.proofs.similarity.lines.sums_of_lines.Given as goal

abbrev pub invariant-loop-k : goal.invariant-loop-k
invariant-loop-k g l = record {
  long : length l.sums ≡ 32;
  none : (k : ℕ) (d : g.row.F.Denot) → k < l.k → g.F.LineSum.float (get_or l.sums k d) ≡ float_zero;
}

abbrev pub invariant-loop-strip : goal.invariant-loop-strip
invariant-loop-strip g l = record {
  long : length l.sums ≡ 32;
  begun : l.strip < l.strips → l.first ≡ 63 * l.strip;
  ended : l.strips ≤ l.strip → l.first ≡ l.across;
  so_far : (k : ℕ) (d : g.row.F.Denot) → k < l.count → g.F.LineSum.float (get_or l.sums k d)
      ≡ total g.F.LineSum.format
      (map (λ x. window_at g.T.Pixel.form l.constants l.a l.b x (l.y + k)) (range_with_len 0 l.first));
}

abbrev pub invariant-loop-line : goal.invariant-loop-line
invariant-loop-line g l = record {
  long : length l.sums ≡ 32;
  done : (k : ℕ) (d : g.row.F.Denot) → k < l.line → g.F.LineSum.float (get_or l.sums k d)
      ≡ total g.F.LineSum.format
      (map (λ x. window_at g.T.Pixel.form l.constants l.a l.b x (l.y + k)) (range_with_len 0 (l.first + l.windows)));
  left : (k : ℕ) (d : g.row.F.Denot) → l.line ≤ k → k < l.count → g.F.LineSum.float (get_or l.sums k d)
      ≡ total g.F.LineSum.format
      (map (λ x. window_at g.T.Pixel.form l.constants l.a l.b x (l.y + k)) (range_with_len 0 l.first));
  above : AreBlockSums g.T.Pixel.form.value (4 * l.first) (4 * (l.y + l.line)) l.a l.b (l.windows + 1) l.above;
}
