-- The calls of the program on its frame, the text that it prints, and the faults that it reports.
use Rattle.std.specs.Prelude.{ℕ, ◌≡◌, ◌≢◌, List, [], ◌∷◌, length, Option, Some, None, Result, slice_get, replicate, ⊤}
use Rattle.v_frame.specs.Prelude.{Tables, VisibleCall, Answer, CopyError, DataLength}
use Rattle.v_frame.specs.declared.replay.call.VisibleCall.TheVariants.{Width, Height, Row, CopyFromSlice}
use Rattle.v_frame.specs.declared.replay.answer.Answer.TheVariants.{Number, RowShown, Copied}
use Rattle.v_frame.specs.declared.frame.error.FrameError.TheVariants.{OutOfMemory as NoRoomForFrame}
use Rattle.v_frame_planar.specs.Counted.{Watched, HasFailed, AppendsBeginning}
use Rattle.v_frame_planar.specs.declared.counted.WriteFault.{WriteFault}
use Rattle.v_frame_planar.specs.declared.counted.WriteFault.TheVariants.{Failed, TookNothing}
use Rattle.v_frame_tool_run.specs.declared.fault.ToolFault.{ToolFault}
use Rattle.v_frame_tool_run.specs.declared.fault.ToolFault.TheVariants.{Frame, Copy, OutOfMemory, Output, WriteZero}

-- The tables of a frame with a luma plane of 4 by 2 zeros and no other plane.
abbrev pub blank_tables : Tables ℕ
blank_tables = record { y = replicate 2 (replicate 4 0); u = None; v = None }

-- The calls that fill, measure and read the plane.
abbrev pub calls_on : List ℕ → List (VisibleCall ℕ)
calls_on source = CopyFromSlice 0 source ∷ Width 0 ∷ Height 0 ∷ Row 0 0 ∷ Row 0 1 ∷ []

-- The result exists and is that of a copy.
abbrev pub IsCopied : Option (Answer ℕ) → Type 0
IsCopied None = ⊥
IsCopied (Some answer) = (copied : Result (Unit {0}) CopyError) × (answer ≡ Copied copied)

-- The first result is that of a copy.
abbrev pub StartsWithCopy : List (Answer ℕ) → Type 0
StartsWithCopy answers = IsCopied (slice_get answers 0)

-- The results are a width, a height and two rows.
abbrev pub IsSizeAndRows : List (Answer ℕ) → Type 0
IsSizeAndRows (Number width ∷ Number height ∷ RowShown (Some first) ∷ RowShown (Some second) ∷ []) =
    ⊤
IsSizeAndRows _ = ⊥

-- The fault can occur for this source, with these numbers of failures before and after the run.
abbrev pub IsDue : List ℕ → ℕ → ℕ → ToolFault → Type 0
IsDue source old new (Frame error) = error ≡ NoRoomForFrame
IsDue source old new (Copy error) = (length source ≢ 8) × (error ≡ DataLength 8 (length source))
IsDue source old new OutOfMemory = ⊤
IsDue source old new Output = (length source ≡ 8) × HasFailed old new
IsDue source old new WriteZero = length source ≡ 8

-- The fault of the program that reports a fault of its writer.
abbrev pub tool_fault_of : WriteFault → ToolFault
tool_fault_of Failed = Output
tool_fault_of TookNothing = WriteZero

-- The state of a writer after a run that failed. It is unchanged, unless a write failed or took no
-- bytes.
module _ {W : Type 0} (contents : W → Option (List ℕ)) (old new : Watched W) (text : List ℕ) where
  abbrev pub LeavesWriter : ToolFault → Type 0
  LeavesWriter (Frame error) = new ≡ old
  LeavesWriter (Copy error) = new ≡ old
  LeavesWriter OutOfMemory = new ≡ old
  LeavesWriter Output = AppendsBeginning (contents old.inner) (contents new.inner) text
  LeavesWriter WriteZero =
      AppendsBeginning (contents old.inner) (contents new.inner) text
      × (new.failures ≡ old.failures)
