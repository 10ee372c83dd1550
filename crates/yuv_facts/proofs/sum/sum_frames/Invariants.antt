-- The frames so far were read, and the line of each was written.
use Rattle.std.proofs.Common.{◌≡◌}
use Rattle.v_frame.specs.Prelude.{tables_of}
use Rattle.v_frame_planar.specs.Planar.{sizes_of}
use Rattle.yuv_facts.proofs.Summing.{SumsSoFar}
use Rattle.v_frame_streams.specs.MadeFor.{IsMadeFor}
use Rattle.v_frame_streams.specs.Sources.{bytes_left, stream_of}
use Rattle.yuv_facts.proofs.sum.sum_frames.Given as goal

abbrev pub invariant-loop-count : goal.invariant-loop-count
invariant-loop-count g l = record {
  made : IsMadeFor g.T.Pixel.form l.source l.picture;
  sized : sizes_of (tables_of l.picture.frame) ≡ sizes_of (tables_of l.fn.picture.frame);
  same : stream_of l.source ≡ stream_of l.fn.source;
  summed : SumsSoFar l.fn.source.container l.fn.source.frame_len l.lines.planes g.T.Pixel.form.size
      (sizes_of (tables_of l.fn.picture.frame)) l.lines.before (bytes_left g.R.Read.remaining l.fn.source)
      (bytes_left g.R.Read.remaining l.source) (g.W.Write.contents l.fn.out)
      (g.W.Write.contents l.out) l.count;
}
