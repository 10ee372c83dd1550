-- A writer that fails in a line or after it has received a beginning of all bytes.
use Rattle.std.proofs.Common.{ℕ, ◌≡◌, ◌+◌, List, ◌++◌, length, take, Option, sym, ◌∙◌, subst, arith, length-append}
use Rattle.std.proofs.lemmas.List.{take-append-le}
use Rattle.std.proofs.Math.Seq.{take-append-add}
use Rattle.std.specs.Io.KnownBytes.{Appends}
use Rattle.std.proofs.KnownBytes.{Appends-trans}
use Rattle.v_frame_planar.specs.Counted.{Watched, HasFailed, AppendsBeginning, StopsWriting}
use Rattle.v_frame_planar.specs.Planar.{error_of, MayStopWriting}
use Rattle.v_frame_planar.specs.declared.error.PlanarError.{PlanarError}
use Rattle.v_frame_planar.specs.declared.error.PlanarError.TheVariants.{Truncated, TooLarge, Read, Write, WriteZero}
use Rattle.v_frame_planar.specs.declared.error.PlanarError.TheVariants.{OutOfMemory}
use Rattle.v_frame_planar.specs.declared.counted.WriteFault.{WriteFault}
use Rattle.v_frame_planar.specs.declared.counted.WriteFault.TheVariants.{Failed, TookNothing}
use Rattle.v_frame_y4m.specs.Streams.{MayStopWritingFrame}
use Rattle.v_frame_y4m.specs.declared.error.Y4mError.TheVariants.{Planar}

module _ (front rest : List ℕ) where
  in_front : (old new : Option (List ℕ)) → AppendsBeginning old new front → AppendsBeginning old new (front ++ rest)
  in_front old new beginning =
      let count = beginning.0 in (
        count,
        omega (arith, beginning.1, length-append front rest),
        subst (Appends old new) (sym (take-append-le count front rest (omega (
          arith,
          beginning.1,
        )))) beginning.2,
      )

  behind : (old mid new : Option (List ℕ)) → Appends old mid front → AppendsBeginning mid new rest → AppendsBeginning
      old new (front ++ rest)
  behind old mid new sent beginning =
      let count = beginning.0 in (
        length front + count,
        omega (arith, beginning.1, length-append front rest),
        subst (Appends old new) (sym (take-append-add front rest count))
            (Appends-trans old mid new front (take count rest) sent beginning.2),
      )

  module _ {W : Type 0} (contents : W → Option (List ℕ)) (old mid new : Watched W) where
    -- The line was not written whole.
    pub stops_in_line : (fault : WriteFault) → StopsWriting contents old new front fault
        → MayStopWritingFrame contents old new (front ++ rest) (Planar (error_of fault))
    stops_in_line Failed stopped = (in_front _ _ stopped.0, stopped.1)
    stops_in_line TookNothing stopped = (in_front _ _ stopped.0, stopped.1)

    -- The line was written whole, and the bytes after it were not.
    pub stops_behind : Appends (contents old.inner) (contents mid.inner) front → mid.failures ≡ old.failures
        → (fault : PlanarError) → MayStopWriting contents mid new rest fault → MayStopWritingFrame contents old new
        (front ++ rest) (Planar fault)
    stops_behind sent same (Truncated expected found) stopped = stopped
    stops_behind sent same TooLarge stopped = stopped
    stops_behind sent same Read stopped = stopped
    stops_behind sent same OutOfMemory stopped = stopped
    stops_behind sent same Write stopped = (
      behind _ _ _ sent stopped.0,
      subst (λ (n : ℕ). HasFailed n new.failures)
          same stopped.1,
    )
    stops_behind sent same WriteZero stopped = (behind _ _ _ sent stopped.0, stopped.1 ∙ same)

-- A writer that failed while all bytes were written.
pub stops_writing : {W : Type 0} (contents : W → Option (List ℕ)) (old new : Watched W) (bytes : List ℕ)
    (fault : WriteFault)
    → StopsWriting contents old new bytes fault → MayStopWritingFrame contents old new bytes (Planar (error_of fault))
stops_writing contents old new bytes Failed stopped = stopped
stops_writing contents old new bytes TookNothing stopped = stopped
