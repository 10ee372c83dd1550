-- The loop step sums eight more blocks. After the last step, all blocks are summed.
use Rattle.std.proofs.Common.{◌≡◌, ◌+◌, ◌-◌, ◌*◌, ◌≤◌, ◌<◌, ◌∙◌, arith, inl, inr}
use Rattle.std.proofs.lemmas.Bool.{cases_lt}
use Rattle.v_frame_measures.proofs.Blocks.{block_is}
use Rattle.v_frame_measures.proofs.similarity.blocks.BlockSums.sum_rows.Goals as goal

pub loop-eight-init : goal.loop-eight-init
loop-eight-init g c k h = absurd (omega (arith, h))

pub loop-eight-preserved : goal.loop-eight-preserved
loop-eight-preserved g c j h =
    let value = g.T.Pixel.form.value in let a = c.args.a.now in let b = c.args.b.now in let x = c.args.x in let y = c.args.y in
    let k = c.min-k.result in let width = c.width-width in let width1 = c.width-other in let least = c.min-k.ensures in
    elim (cases_lt j k) [
      | inl before ↦ c.put.ensures.kept j before ∙ c.loop-eight.invariant j (omega (arith, before, least))
      | inr after ↦
          let few : j - k < 8 = omega (arith, h, after, least) in
          let reach : x + 4 * k + 32 ≤ width.result =
          omega (arith, least, width.ensures.value, c.requires.across, c.requires.many) in
          let reach1 : x + 4 * k + 32 ≤ width1.result =
          omega (arith, reach, width.ensures.value, width1.ensures.value, c.requires.wide) in
          let is : k + (j - k) ≡ j = omega (arith, after) in
          let column : x + 4 * k + 4 * (j - k) ≡ x + 4 * j = omega (arith, after) in
          rw is at (c.put.ensures.made (j - k) few)
          ∙ rw column at (block_is value width.result width1.result a b width.ensures.rows width1.ensures.rows c.requires.high
          (x + 4 * k) y (j - k) _ few reach reach1 c.sum_rows.ensures.value)
    ]

pub returns : goal.returns
returns g c k h = c.loop-eight.invariant k (omega (arith, h))
