-- The pixels processed so far are counted.
use Rattle.std.proofs.Common.{take}
use Rattle.v_frame_statistics.specs.Histogram.{CountsMore}
use Rattle.v_frame_statistics.proofs.rows.histograms.count_four_rows.Given as goal

abbrev pub invariant-loop-x : goal.invariant-loop-x
invariant-loop-x l = record {
  first : CountsMore 256 (take l.x l.a) l.initial.first l.first;
  second : CountsMore 256 (take l.x l.b) l.initial.second l.second;
  third : CountsMore 256 (take l.x l.c) l.initial.third l.third;
  fourth : CountsMore 256 (take l.x l.d) l.initial.fourth l.fourth;
}
