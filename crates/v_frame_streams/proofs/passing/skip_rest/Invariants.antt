-- The bytes of the frame so far were read.
use Rattle.std.proofs.Common.{◌≡◌, ◌≤◌, ◌-◌, length}
use Rattle.v_frame_planar.specs.Planar.{ConsumesSome}
use Rattle.v_frame_streams.specs.Sources.{bytes_left, stream_of}
use Rattle.v_frame_streams.proofs.passing.skip_rest.Given as goal

abbrev pub invariant-loop-done : goal.invariant-loop-done
invariant-loop-done g l = record {
  from : l.before ≤ l.done;
  within : l.done ≤ l.fn.source.frame_len;
  read : ConsumesSome (bytes_left g.R.Read.remaining l.fn.source) (bytes_left g.R.Read.remaining l.source)
      (l.done - l.before);
  uncounted : l.source.reader.failures ≡ l.fn.source.reader.failures;
  same : stream_of l.source ≡ stream_of l.fn.source;
  frames : l.source.frames ≡ l.fn.source.frames;
  size : length l.block ≡ l.size;
}

abbrev pub decreases-loop-done : goal.decreases-loop-done
decreases-loop-done g l = l.frame_len - l.done
