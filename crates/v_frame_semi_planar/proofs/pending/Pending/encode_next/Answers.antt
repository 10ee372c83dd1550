-- One of the two current chroma rows is at its end.
use Rattle.std.proofs.Common.{arith}
use Rattle.std.proofs.lemmas.Bool.Decides.{nat_tests}
use Rattle.v_frame_semi_planar.proofs.Encoded.{no_first_turn, no_second_turn}
use Rattle.v_frame_semi_planar.proofs.pending.Pending.encode_next.Goals as goal
use Rattle.v_frame_semi_planar.proofs.pending.Pending.encode_next.Goals.{else-not-is_empty-2-via-then-not-is_empty-2+else-not-is_empty-3}
use Rattle.v_frame_semi_planar.proofs.pending.Pending.encode_next.Goals.{else-not-is_empty-2-via-else-not-is_empty-2}

pub begin_chroma-requires-clause-begun : goal.begin_chroma-requires-clause-begun
begin_chroma-requires-clause-begun g c κs within =
    elim c.else-not-is_empty-2.branch [
      | else-not-is_empty-2-via-then-not-is_empty-2+else-not-is_empty-3 w ↦ no_second_turn c.args.self.now.first.now
          c.args.self.now.second.now (grind (arith, nat_tests))
      | else-not-is_empty-2-via-else-not-is_empty-2 w ↦ no_first_turn c.args.self.now.first.now
          c.args.self.now.second.now (grind (arith, nat_tests))
    ]
