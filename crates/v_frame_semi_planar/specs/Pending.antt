-- The samples of a frame that are still to be written: the rest of the current row of luma or of
-- both chroma planes, and the rows after it.
use Rattle.std.specs.Prelude.{ℕ, ◌≡◌, ◌+◌, ◌<◌, ◌≤◌, List, ◌++◌, length, take}
use Rattle.v_frame.specs.Prelude.{PixelForm, row_major}
use Rattle.v_frame_ops.specs.Change.{combined}
use Rattle.v_frame_semi_planar.specs.Interleaved.{interleaved}
use Rattle.v_frame_semi_planar.specs.SemiPlanar.{stored_bytes}
use Rattle.v_frame_semi_planar.specs.declared.pending.Pending.{Pending}

module _ {T : Type 0} where
  abbrev pub chroma_pending : Pending T → List T
  chroma_pending p =
      interleaved p.first.now p.second.now
      ++ row_major (combined interleaved p.first_rows p.second_rows)

  abbrev pub pixels_pending : Pending T → List T
  pixels_pending p = p.luma.now ++ (row_major p.luma_rows ++ chroma_pending p)

  -- The number of pixels and rows that are left. Each step lowers it.
  abbrev pub steps_pending : Pending T → ℕ
  steps_pending p = length (pixels_pending p) + length p.luma_rows + length p.first_rows

  -- The first pixels that are left were encoded to the front of a block, or a row was begun.
  pub record Encodes (form : PixelForm T) (unused : ℕ) (old new : Pending T) (block : List ℕ)
      (count : ℕ) : Type 0 where
    pub bound : count ≤ length block
    pub bytes : stored_bytes form unused (pixels_pending old)
        ≡ take count block ++ stored_bytes form unused (pixels_pending new)
    pub fewer : steps_pending new < steps_pending old
