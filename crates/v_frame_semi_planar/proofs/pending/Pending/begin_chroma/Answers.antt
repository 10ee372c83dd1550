-- If the second plane has no row left, interleaving the rows that are left gives nothing.
use Rattle.std.proofs.Common.{arith}
use Rattle.std.proofs.lemmas.Grind.{common_steps}
use Rattle.v_frame_semi_planar.specs.Interleaved.{interleaved}
use Rattle.v_frame_semi_planar.proofs.CombinedLists.{combined_with_none}
use Rattle.v_frame_semi_planar.proofs.pending.Pending.begin_chroma.Goals as goal

pub returns-in_err-second : goal.returns-in_err-second
returns-in_err-second g c =
    let none = combined_with_none (interleaved {X = g.row.T.Denot}) c.args.self.now.first_rows in
    let left = combined_with_none (interleaved {X = g.row.T.Denot}) c.next.new.self in
    grind (arith, common_steps)
