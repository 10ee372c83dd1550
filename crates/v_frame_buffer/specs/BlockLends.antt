-- The final entries of a block after a `&mut` to them has ended.
use Rattle.std.specs.Prelude.{ℕ, List}
use Rattle.std.specs.Borrow.{Fml, RattleType, MutBor, Array, Lends}
use Rattle.v_frame_buffer.specs.Part.{with_part}
use Rattle.v_frame_buffer.specs.declared.aligned.block.Cells.{Cells}
use Rattle.v_frame_buffer.specs.contracts.aligned.block.Cells.{the_row}

-- The cells with other entries.
abbrev pub with_items : {X : Type 0} → Cells X → List X → Cells X
with_items c xs = record { mark = c.mark; at = c.at; items = xs; spare = c.spare }

-- When the borrow r ends, the entries of the block from index `start` on are the final entries of
-- r.
abbrev pub LendsItems : (R : RattleType) → MutBor (Cells R.Denot) → ℕ → MutBor (List R.Denot) → Fml
LendsItems R c start r =
    Lends (the_row R) (Array R 0) c r (λ ys. with_items c.now (with_part c.now.items start ys))
