-- Parameters in the order of the writer are those that are written.
use Rattle.std.proofs.Common.{drop, ap, subst}
use Rattle.v_frame_y4m.specs.Header.{IsInOrder}
use Rattle.v_frame_y4m.proofs.HeaderLines.{in_order_comes_back}
use Rattle.v_frame_y4m.proofs.laws.lines_in_order_are_written_back.Goals as goal

pub returns : goal.returns
returns c = λ line h is order. in_order_comes_back h line is (subst IsInOrder (ap (drop 1) is.pieces) order)
