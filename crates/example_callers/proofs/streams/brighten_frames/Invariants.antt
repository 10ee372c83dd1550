-- The frames so far were copied, and the next one has their size.
use Rattle.std.proofs.Common.{◌≡◌}
use Rattle.v_frame.specs.Prelude.{one_byte, tables_of}
use Rattle.v_frame_planar.specs.Planar.{sizes_of}
use Rattle.example_callers.specs.Streams.{brighter, Carries}
use Rattle.example_callers.proofs.streams.brighten_frames.Given as goal

abbrev pub invariant-loop-done : goal.invariant-loop-done
invariant-loop-done g l = record {
  carried : Carries one_byte (sizes_of (tables_of l.fn.frame)) (brighter l.by) (g.R.Read.remaining l.fn.reader.inner)
      (g.R.Read.remaining l.reader.inner)
      (g.W.Write.contents l.fn.writer.inner) (g.W.Write.contents l.writer.inner) l.done;
  sized : sizes_of (tables_of l.frame) ≡ sizes_of (tables_of l.fn.frame);
}
