-- The loop step handles one more row, which may have a larger difference.
use Rattle.std.proofs.Common.{arith}
use Rattle.v_frame_measures.proofs.Differing.{first_row, next_row_greater, next_row_less, in_all_rows}
use Rattle.v_frame_measures.proofs.differences.greatest_difference_of_rows.Goals as goal
use Rattle.v_frame_measures.proofs.differences.greatest_difference_of_rows.Goals.{then-difference-found, else-difference-found}

pub loop-y-init : goal.loop-y-init
loop-y-init g c =
    first_row g.T.Pixel.form.value c.args.a.now c.args.b.now _ _ _ _ c.visible_row-row.ensures.value
    c.visible_row-other.ensures.value c.greatest_of_rows-difference.ensures.bound c.first_place.ensures

pub loop-y-preserved : goal.loop-y-preserved
loop-y-preserved g c =
    let value = g.T.Pixel.form.value in let a = c.args.a.now in let b = c.args.b.now in let y = c.loop-y.y in
    let row = c.visible_row-row-in-loop-y.ensures.value in let other = c.visible_row-other-in-loop-y.ensures.value in
    let most = c.greatest_of_rows-difference-in-loop-y.ensures.bound in
    elim c.if-difference-found.branch [
      | then-difference-found w ↦ rw w.found-is
          (next_row_greater value a b y _ _ _ _ _ row other most w.first_place-x.ensures c.loop-y.invariant
          w.if-difference-found.true)
      | else-difference-found w ↦ rw w.found-is
          (next_row_less value a b y _ _ _ _ row other most c.loop-y.invariant w.if-difference-found.false)
    ]

pub returns : goal.returns
returns g c =
    in_all_rows g.T.Pixel.form.value c.args.a.now c.args.b.now c.loop-y.y c.loop-y.found c.loop-y.invariant (omega arith)
