-- The slice of all entries is a part that begins with the first entry.
use Rattle.std.proofs.Common.{refl, sym, ◌∙◌}
use Rattle.v_frame_buffer.proofs.block.BlockKept.{part_written}
use Rattle.v_frame_buffer.proofs.Parts.{front_part, front_range}
use Rattle.v_frame_buffer.proofs.aligned.AlignedData.as_mut_slice.Goals as goal

pub slice_mut-requires-clause-base : goal.slice_mut-requires-clause-base
slice_mut-requires-clause-base g c = sym c.self.invariant.begins

pub invariant_of-self-lent : goal.invariant_of-self-lent
invariant_of-self-lent g c = λ w.
    let a = c.self.inside in
    part_written a.base a.cells a.deed a.alloc a.len 0 w c.self.invariant

pub returns : goal.returns
returns g c =
    let xs = c.self.inside.cells.items in
    rw (← c.self.view_is) (
      (refl, λ w. front_part xs w),
      record {
        writes_back = tt;
        value = c.slice_mut.ensures.value ∙ front_range xs c.self.inside.len
            c.self.invariant.items;
      },
    )
