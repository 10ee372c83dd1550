-- The frames so far were copied, and the next one has their size.
use Rattle.std.proofs.Common.{◌≡◌}
use Rattle.v_frame.specs.Prelude.{tables_of}
use Rattle.v_frame_planar.specs.Planar.{sizes_of}
use Rattle.example_callers.specs.Streams.{Carries}
use Rattle.example_callers.proofs.streams.copy_frames.Given as goal

abbrev pub invariant-loop-count : goal.invariant-loop-count
invariant-loop-count g l = record {
  carried : Carries g.T.Pixel.form (sizes_of (tables_of l.fn.frame)) (λ tables. tables)
      (g.R.Read.remaining l.fn.reader.inner)
      (g.R.Read.remaining l.reader.inner) (g.W.Write.contents l.fn.writer.inner) (g.W.Write.contents l.writer.inner)
      l.count;
  sized : sizes_of (tables_of l.frame) ≡ sizes_of (tables_of l.fn.frame);
}
