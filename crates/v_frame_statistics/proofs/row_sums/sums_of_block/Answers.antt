-- The loop step handles one more pixel. After the last step, all pixels are handled.
use Rattle.std.proofs.Common.{arith, ◌∙◌}
use Rattle.v_frame_statistics.proofs.SumSteps.{item_summed, all_summed, item_halves_summed, all_halves_summed}
use Rattle.v_frame_statistics.proofs.row_sums.sums_of_block.Goals as goal

pub loop-x-preserved : goal.loop-x-preserved
loop-x-preserved g c =
    let block = c.args.block.now in let x = c.loop-x.x in let so_far = c.loop-x.invariant in
    let read = c.index-block-x.is in record {
      values =
          item_summed _ 65535 block x _ _ _ so_far.values (omega arith) read
          (c.from-values.ensures ∙ c.into_u16.ensures.value) (omega arith);
      squares =
          item_halves_summed _ block x _ _ _ _ _ _ so_far.squares (omega arith) read c.product_of-square.ensures
          (omega arith) c.low_half-low.ensures c.high_half-high.ensures;
    }

pub returns-clause-value : goal.returns-clause-value
returns-clause-value g c =
    let block = c.args.block.now in let x = c.loop-x.x in let so_far = c.loop-x.invariant in record {
      values = c.from.ensures ∙ all_summed _ 65535 block x _ so_far.values (omega arith);
      squares = c.joined_halves.ensures ∙ all_halves_summed _ block x _ _ so_far.squares (omega arith);
    }
