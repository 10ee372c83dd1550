-- The bytes of the frame so far were read and written.
use Rattle.std.proofs.Common.{◌≡◌, ◌≤◌, ◌-◌, length}
use Rattle.v_frame_streams.specs.Copies.{MovesSome}
use Rattle.v_frame_streams.specs.Sources.{bytes_left, stream_of}
use Rattle.v_frame_streams.proofs.moving.move_rest.Given as goal

abbrev pub invariant-loop-done : goal.invariant-loop-done
invariant-loop-done g l = record {
  from : l.before ≤ l.done;
  within : l.done ≤ l.fn.source.frame_len;
  moved : MovesSome (bytes_left g.R.Read.remaining l.fn.source) (bytes_left g.R.Read.remaining l.source)
      (g.W.Write.contents l.fn.sink.writer.inner) (g.W.Write.contents l.sink.writer.inner) (l.done - l.before);
  same : stream_of l.source ≡ stream_of l.fn.source;
  to : l.sink.container ≡ l.fn.sink.container;
  read : l.source.frames ≡ l.fn.source.frames;
  written : l.sink.frames ≡ l.fn.sink.frames;
  size : length l.block ≡ l.size;
}

abbrev pub decreases-loop-done : goal.decreases-loop-done
decreases-loop-done g l = l.frame_len - l.done
