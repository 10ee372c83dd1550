-- The proof treats each of the four sums of a block.
use Rattle.v_frame_measures.proofs.Joined.{alike}
use Rattle.v_frame_measures.proofs.similarity.blocks.BlockSums.put.Goals as goal

pub returns : goal.returns
returns c =
    let first = c.put_sums_of_fours.ensures in let second = c.put_sums_of_fours-2.ensures in
    let squares = c.put_sums_of_fours-3.ensures in let products = c.put_sums_of_fours-4.ensures in
    record {
      made = λ j h. alike _ _ _ _ _ _ _ _ (first.made j h) (second.made j h) (squares.made j h) (products.made j h);
      kept = λ j h. alike _ _ _ _ _ _ _ _ (first.kept j h) (second.kept j h) (squares.kept j h) (products.kept j h);
    }
