-- The frames so far were edited and written, and the next one has the same size.
use Rattle.std.proofs.Common.{◌≡◌, ◌+◌}
use Rattle.std.specs.Prelude.{min}
use Rattle.v_frame.specs.Prelude.{tables_of}
use Rattle.v_frame_planar.specs.Planar.{sizes_of}
use Rattle.v_frame_streams.specs.Copies.{Carries}
use Rattle.v_frame_streams.specs.MadeFor.{IsMadeFor}
use Rattle.v_frame_streams.specs.Pictures.{tables_of_bytes}
use Rattle.v_frame_streams.specs.Plans.{plan_of, planned_bytes}
use Rattle.v_frame_streams.specs.Sources.{bytes_left, stream_of}
use Rattle.v_frame_streams.specs.Streams.{most_frames}
use Rattle.v_frame_streams.specs.Telling.{TellsUpTo}
use Rattle.v_frame_streams.proofs.editing.edit_frames.Given as goal

abbrev pub invariant-loop-count : goal.invariant-loop-count
invariant-loop-count g l = record {
  carried : Carries l.fn.source.container l.fn.source.frame_len (bytes_left g.R.Read.remaining l.fn.source)
      (bytes_left g.R.Read.remaining l.source) (g.W.Write.contents l.fn.sink.writer.inner)
      (g.W.Write.contents l.sink.writer.inner) l.fn.sink.container
      (λ bytes. planned_bytes g.S.Pixel.form g.T.Pixel.form (plan_of l.fn.maker)
      (tables_of_bytes g.S.Pixel.form l.fn.source.layout (sizes_of (tables_of l.fn.picture.frame)) bytes)) l.count l.count;
  same : stream_of l.source ≡ stream_of l.fn.source;
  made : IsMadeFor g.S.Pixel.form l.source l.picture;
  sizes : sizes_of (tables_of l.picture.frame) ≡ sizes_of (tables_of l.fn.picture.frame);
  plan : plan_of l.maker ≡ plan_of l.fn.maker;
  to : l.sink.container ≡ l.fn.sink.container;
  read : l.source.frames ≡ min (l.fn.source.frames + l.count) most_frames;
  written : l.sink.frames ≡ min (l.fn.sink.frames + l.count) most_frames;
  told : TellsUpTo g.P.Progress.shows l.count l.fn.progress l.progress;
}
