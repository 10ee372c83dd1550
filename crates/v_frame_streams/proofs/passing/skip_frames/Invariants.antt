-- The frames so far were read.
use Rattle.std.proofs.Common.{◌≡◌, ◌+◌, length, ◌<◌}
use Rattle.std.specs.Prelude.{min}
use Rattle.v_frame_streams.specs.Sources.{bytes_left, stream_of}
use Rattle.v_frame_streams.specs.Streams.{most_frames, CountsFrames}
use Rattle.v_frame_streams.specs.Telling.{TellsUpTo}
use Rattle.v_frame_streams.proofs.passing.skip_frames.Given as goal

abbrev pub invariant-loop-count : goal.invariant-loop-count
invariant-loop-count g l = record {
  counted : CountsFrames (bytes_left g.R.Read.remaining l.fn.source) (bytes_left g.R.Read.remaining l.source)
      l.fn.source.container l.fn.source.frame_len l.count l.count;
  same : stream_of l.source ≡ stream_of l.fn.source;
  frames : l.source.frames ≡ min (l.fn.source.frames + l.count) most_frames;
  uncounted : l.source.reader.failures ≡ l.fn.source.reader.failures;
  some : 0 < length l.block;
  told : TellsUpTo g.P.Progress.shows l.count l.fn.progress l.progress;
}
