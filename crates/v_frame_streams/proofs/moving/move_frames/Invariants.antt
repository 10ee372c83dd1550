-- The frames so far were copied.
use Rattle.std.proofs.Common.{◌≡◌, ◌+◌, length, ◌<◌}
use Rattle.std.specs.Prelude.{min}
use Rattle.v_frame_streams.specs.Copies.{same_bytes, Carries}
use Rattle.v_frame_streams.specs.Sources.{bytes_left, stream_of}
use Rattle.v_frame_streams.specs.Streams.{most_frames}
use Rattle.v_frame_streams.specs.Telling.{TellsUpTo}
use Rattle.v_frame_streams.proofs.moving.move_frames.Given as goal

abbrev pub invariant-loop-count : goal.invariant-loop-count
invariant-loop-count g l = record {
  carried : Carries l.fn.source.container l.fn.source.frame_len (bytes_left g.R.Read.remaining l.fn.source)
      (bytes_left g.R.Read.remaining l.source) (g.W.Write.contents l.fn.sink.writer.inner)
      (g.W.Write.contents l.sink.writer.inner) l.fn.sink.container same_bytes l.count l.count;
  same : stream_of l.source ≡ stream_of l.fn.source;
  to : l.sink.container ≡ l.fn.sink.container;
  read : l.source.frames ≡ min (l.fn.source.frames + l.count) most_frames;
  written : l.sink.frames ≡ min (l.fn.sink.frames + l.count) most_frames;
  some : 0 < length l.block;
  told : TellsUpTo g.P.Progress.shows l.count l.fn.progress l.progress;
}
