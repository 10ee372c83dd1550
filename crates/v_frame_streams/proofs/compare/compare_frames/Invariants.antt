-- The result so far is that of the frames so far, and the next ones have the same size.
use Rattle.std.proofs.Common.{◌≡◌}
use Rattle.std.specs.Prelude.{None}
use Rattle.v_frame.specs.Prelude.{tables_of}
use Rattle.v_frame_planar.specs.Planar.{sizes_of}
use Rattle.v_frame_streams.specs.Comparisons.{WatchesFrames}
use Rattle.v_frame_streams.specs.MadeFor.{IsMadeFor}
use Rattle.v_frame_streams.specs.Sources.{bytes_left, stream_of}
use Rattle.v_frame_streams.specs.Telling.{TellsUpTo}
use Rattle.v_frame_streams.proofs.compare.compare_frames.Given as goal

abbrev pub invariant-loop-count : goal.invariant-loop-count
invariant-loop-count g l = record {
  watched : WatchesFrames g.T.Pixel.form (sizes_of (tables_of l.fn.one.frame)) g.O.FrameObserver.takes l.fn.observer
      l.observer (stream_of l.fn.first) (stream_of l.fn.second) (bytes_left g.R.Read.remaining l.fn.first)
      (bytes_left g.R.Read.remaining l.first) (bytes_left g.S.Read.remaining l.fn.second)
      (bytes_left g.S.Read.remaining l.second) l.found;
  counted : l.found.frames ≡ l.count;
  unended : l.found.longer ≡ None;
  same : stream_of l.first ≡ stream_of l.fn.first;
  also_same : stream_of l.second ≡ stream_of l.fn.second;
  made : IsMadeFor g.T.Pixel.form l.first l.one;
  also_made : IsMadeFor g.T.Pixel.form l.second l.other;
  sizes : sizes_of (tables_of l.one.frame) ≡ sizes_of (tables_of l.fn.one.frame);
  also_sizes : sizes_of (tables_of l.other.frame) ≡ sizes_of (tables_of l.fn.one.frame);
  told : TellsUpTo g.P.Progress.shows l.count l.fn.progress l.progress;
}
