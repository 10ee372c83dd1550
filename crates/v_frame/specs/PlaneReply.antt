-- A call on one plane has the result and the effect of the corresponding call on its table.
use Rattle.std.specs.Prelude.{◌≡◌, None, Result, IfOk, OnOk, OnErr}
use Rattle.std.specs.declared.alloc.AllocError.{AllocError}
use Rattle.v_frame_raster.specs.Pixel.{PixelForm}
use Rattle.v_frame_raster.specs.Raster.{Raster, table_of, KeepsBorder}
use Rattle.v_frame.specs.Replay.{written_plane, on_table}
use Rattle.v_frame.specs.declared.replay.call.VisibleCall.{VisibleCall}
use Rattle.v_frame.specs.declared.replay.answer.Answer.{Answer}

-- The plane is unchanged if memory could not be allocated, or if the call writes no plane. The
-- border is always unchanged.
pub record RepliesOn {T : Type 0} (form : PixelForm T) (call : VisibleCall T) (old new : Raster T)
    (result : Result (Answer T) AllocError) : Type 0 where
  pub answer : IfOk result (λ answer. answer ≡ (on_table form call (table_of old)).answer)
  pub table : OnOk result (table_of new ≡ (on_table form call (table_of old)).table)
  pub err : OnErr result (new ≡ old)
  pub border : KeepsBorder old new
  pub unwritten : written_plane call ≡ None → new ≡ old
