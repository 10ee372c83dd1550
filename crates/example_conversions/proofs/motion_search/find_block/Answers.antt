-- The first row, and one more row in each loop step. After the last step, all rows are compared.
use Rattle.std.proofs.Common.{◌≡◌, ◌+◌, ◌-◌, arith}
use Rattle.v_frame.specs.Prelude.{table_of}
use Rattle.example_conversions.specs.MotionSearch.{cost_at}
use Rattle.example_conversions.proofs.MotionSteps.{row_more_stays, row_more_becomes}
use Rattle.example_conversions.proofs.motion_search.find_block.Goals as goal
use Rattle.example_conversions.proofs.motion_search.find_block.Goals.{then-found-best, else-found-best}

pub loop-y-init : goal.loop-y-init
loop-y-init g c =
    let y = c.args.area.y in
    let one : y + 1 - y ≡ 1 = omega arith in
    rw one (c.best_of_row-best.ensures)

pub loop-y-preserved : goal.loop-y-preserved
loop-y-preserved g c =
    let cost_of = cost_at g.T.Pixel.form.value (table_of c.args.plane.now) (table_of c.args.block.now) in
    let area = c.args.area in
    let best = c.loop-y.best in let found = c.best_of_row-found.result in
    elim c.if-found-best.branch [
      | then-found-best w ↦
          rw (w.best-is) (row_more_becomes cost_of area.x area.y best found area.columns c.loop-y.y (omega arith)
          c.loop-y.invariant c.best_of_row-found.ensures w.if-found-best.true)
      | else-found-best w ↦
          rw (w.best-is) (row_more_stays cost_of area.x area.y best found area.columns c.loop-y.y (omega arith)
          c.loop-y.invariant c.best_of_row-found.ensures w.if-found-best.false)
    ]

pub returns : goal.returns
returns g c =
    let y = c.args.area.y in
    let all : c.loop-y.y - y ≡ c.args.area.rows =
    omega (arith, c.loop-y.auto.y-end (omega (arith, c.requires.rows))) in
    rw all at c.loop-y.invariant
