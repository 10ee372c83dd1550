-- A block keeps its uninitialized memory, whatever is written to its entries.
use Rattle.std.proofs.Common.{ℕ, List, ◌∙◌}
use Rattle.v_frame_buffer.specs.Part.{with_part}
use Rattle.v_frame_buffer.specs.BlockLends.{with_items}
use Rattle.v_frame_buffer.specs.Filling.{IsBlock}
use Rattle.v_frame_buffer.specs.declared.aligned.block.Base.{Base}
use Rattle.v_frame_buffer.specs.declared.aligned.block.Cells.{Cells}
use Rattle.v_frame_buffer.specs.declared.aligned.block.Deed.{Deed}
use Rattle.v_frame_buffer.proofs.Parts.{length-with_part}

pub part_written : {T A : Type 0} (base : Base T) (cells : Cells T) (deed : Deed T A) (alloc : A) (len start : ℕ)
    (ys : List T) →
    IsBlock base cells deed alloc len len → IsBlock base (with_items cells (with_part cells.items start ys)) deed alloc
    len len
part_written base cells deed alloc len start ys is = record {
  begins = is.begins;
  items = length-with_part cells.items start ys ∙ is.items;
  room = is.room;
  deed_begins = is.deed_begins;
  deed_len = is.deed_len;
  owner = is.owner;
}
