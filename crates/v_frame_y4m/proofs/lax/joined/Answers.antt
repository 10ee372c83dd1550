-- One more piece has been processed.
use Rattle.std.proofs.Common.{arith}
use Rattle.std.proofs.lemmas.Grind.{common_steps}
use Rattle.v_frame_y4m.proofs.LaxLines.{piece_added, piece_passed}
use Rattle.v_frame_y4m.proofs.lax.joined.Goals.{then-not-is_empty+in_ok-push_strict, else-not-is_empty}
use Rattle.v_frame_y4m.proofs.lax.joined.Goals as goal

pub loop-piece-preserved : goal.loop-piece-preserved
loop-piece-preserved c =
    elim c.if-not-is_empty.branch [
      | then-not-is_empty+in_ok-push_strict w ↦ grind (arith, common_steps, piece_added)
      | else-not-is_empty w ↦ grind (arith, common_steps, piece_passed)
    ]
