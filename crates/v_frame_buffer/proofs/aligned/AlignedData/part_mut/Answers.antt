-- The block lends the same part.
use Rattle.std.proofs.Common.{refl, sym}
use Rattle.v_frame_buffer.proofs.block.BlockKept.{part_written}
use Rattle.v_frame_buffer.proofs.aligned.AlignedData.part_mut.Goals as goal

pub slice_mut-requires-clause-base : goal.slice_mut-requires-clause-base
slice_mut-requires-clause-base g c = sym c.self.invariant.begins

pub slice_mut-requires-clause-within : goal.slice_mut-requires-clause-within
slice_mut-requires-clause-within g c = rw c.self.view_is c.requires.within

pub invariant_of-self-lent : goal.invariant_of-self-lent
invariant_of-self-lent g c = λ w.
    let a = c.self.inside in
    part_written a.base a.cells a.deed a.alloc a.len c.args.start w c.self.invariant

pub returns : goal.returns
returns g c = rw (← c.self.view_is) ((refl, λ w. refl), record { writes_back = tt; value = c.slice_mut.ensures.value })
