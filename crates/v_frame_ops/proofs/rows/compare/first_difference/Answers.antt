-- If no row differs, both tables have the same size and the same pixels.
use Rattle.std.proofs.Common.{ℕ, ◌≡◌, All, List, length, refl, subst, arith}
use Rattle.v_frame_ops.proofs.Tables.{first_difference_is, one_more_row_same}
use Rattle.v_frame_ops.proofs.rows.compare.first_difference.Goals as goal

pub returns-clause-none : goal.returns-clause-none
returns-clause-none g c =
    let same : c.width-2.result ≡ c.width.result = omega arith in
    let wide = subst (λ (n : ℕ). All (λ (row : List g.row.T.Denot). length row ≡ n) c.args.b.now) same
    c.width-2.ensures.rows in (
      λ nothing. c.tables_agree_by_pixels.ensures c.width.result _ _ (omega arith) c.width.ensures.rows wide
          (λ x y across down. c.loop-y.invariant x y (omega arith)),
      λ alike. refl,
    )

pub returns-in-Some-clause-first : goal.returns-in-Some-clause-first
returns-in-Some-clause-first g c =
    first_difference_is c.args.a.now c.args.b.now c.loop-y.y c.visible_row.result.now c.visible_row-in-loop-y.result.now
    c.visible_row.ensures.value c.visible_row-in-loop-y.ensures.value c.loop-y.invariant c.in-Some.x
    c.in-Some.ensures.first

pub returns-in-Some-clause-within : goal.returns-in-Some-clause-within
returns-in-Some-clause-within g c = let within = c.in-Some.ensures.first.within in (omega arith, omega arith)

pub loop-y-preserved : goal.loop-y-preserved
loop-y-preserved g c =
    one_more_row_same c.args.a.now c.args.b.now c.loop-y.y c.visible_row.result.now c.visible_row-in-loop-y.result.now
    c.visible_row.ensures.value c.visible_row-in-loop-y.ensures.value c.loop-y.invariant (omega arith)
    (c.in_default.ensures.none refl)
