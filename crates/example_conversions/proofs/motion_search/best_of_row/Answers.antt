-- The first position, and one more column in each loop step. After the last step, all columns are compared.
use Rattle.std.proofs.Common.{◌≡◌, ◌+◌, ◌-◌, arith}
use Rattle.v_frame.specs.Prelude.{table_of}
use Rattle.example_conversions.specs.MotionSearch.{cost_at}
use Rattle.example_conversions.proofs.MotionSteps.{one_found, column_more_stays, column_more_becomes}
use Rattle.example_conversions.proofs.motion_search.best_of_row.Goals as goal
use Rattle.example_conversions.proofs.motion_search.best_of_row.Goals.{then-found-best, else-found-best}

pub loop-x-init : goal.loop-x-init
loop-x-init g c =
    let cost_of = cost_at g.T.Pixel.form.value (table_of c.args.plane.now) (table_of c.args.block.now) in
    let x = c.args.area.x in
    let one : x + 1 - x ≡ 1 = omega arith in
    let made = c.match_at-best.ensures in
    rw one (one_found cost_of x c.args.y c.match_at-best.result made.x made.y made.cost)

pub loop-x-preserved : goal.loop-x-preserved
loop-x-preserved g c =
    let cost_of = cost_at g.T.Pixel.form.value (table_of c.args.plane.now) (table_of c.args.block.now) in
    let best = c.loop-x.best in let found = c.match_at-found.result in let made = c.match_at-found.ensures in
    elim c.if-found-best.branch [
      | then-found-best w ↦
          rw (w.best-is) (column_more_becomes cost_of c.args.area.x c.args.y best found c.loop-x.x (omega arith)
          c.loop-x.invariant made.x made.y made.cost w.if-found-best.true)
      | else-found-best w ↦
          rw (w.best-is) (column_more_stays cost_of c.args.area.x c.args.y best found c.loop-x.x (omega arith)
          c.loop-x.invariant made.x made.y made.cost w.if-found-best.false)
    ]

pub returns : goal.returns
returns g c =
    let x = c.args.area.x in
    let all : c.loop-x.x - x ≡ c.args.area.columns =
    omega (arith, c.loop-x.auto.x-end (omega (arith, c.requires.columns))) in
    rw all at c.loop-x.invariant
