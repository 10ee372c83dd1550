-- The rows so far are those of the source, split, and all other entries are unchanged.
use Rattle.v_frame.specs.Prelude.{strided_rows, KeepsRest}
use Rattle.v_frame_semi_planar.proofs.Interleaving.{ApartBelow}
use Rattle.v_frame_semi_planar.proofs.rows.chroma.deinterleave.Given as goal

abbrev pub invariant-loop-y : goal.invariant-loop-y
invariant-loop-y g l = record {
  rows : ApartBelow l.source (strided_rows l.width l.height l.first_stride l.first)
      (strided_rows l.width l.height l.second_stride l.second) l.y;
  first_rest : KeepsRest l.width l.height l.first_stride l.initial.first l.first;
  second_rest : KeepsRest l.width l.height l.second_stride l.initial.second l.second;
}
