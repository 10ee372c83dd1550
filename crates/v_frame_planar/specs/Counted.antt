-- A reader or a writer with a count of its failures and the kind of the last one, and the contents
-- of a writer after a failed write.
use Rattle.std.specs.Prelude.{ℕ, ◌≡◌, ◌+◌, ◌-◌, ◌^◌, min, List, Option, IsSome}
use Rattle.std.specs.declared.io.ErrorKind.{ErrorKind}
pub use Rattle.v_frame_bytes.specs.Sending.{AppendsBeginning}
use Rattle.v_frame_planar.specs.declared.counted.WriteFault.{WriteFault}
use Rattle.v_frame_planar.specs.declared.counted.WriteFault.TheVariants.{Failed, TookNothing}

pub record Watched (D : Type 0) : Type 0 where
  pub inner : D
  pub failures : ℕ
  pub last_failure : Option ErrorKind

-- The largest value of the count, at which it saturates.
abbrev pub u64_max : ℕ
u64_max = 2 ^ 64 - 1

-- One call failed between the two counts. The count does not change if it is saturated.
abbrev pub HasFailed : ℕ → ℕ → Type 0
HasFailed old new = new ≡ min (old + 1) u64_max

-- The effect of a failed write of these bytes on the writer.
module _ {W : Type 0} (contents : W → Option (List ℕ)) (old new : Watched W) (bytes : List ℕ) where
  abbrev pub StopsWriting : WriteFault → Type 0
  StopsWriting Failed =
      AppendsBeginning (contents old.inner) (contents new.inner) bytes
      × HasFailed old.failures new.failures
  StopsWriting TookNothing =
      AppendsBeginning (contents old.inner) (contents new.inner) bytes
      × (new.failures ≡ old.failures)

-- If a write failed, the kind of its error is recorded. Otherwise the last failure is unchanged.
abbrev pub TellsWriteCause : Option ErrorKind → Option ErrorKind → WriteFault → Type 0
TellsWriteCause old new Failed = IsSome new
TellsWriteCause old new TookNothing = new ≡ old
