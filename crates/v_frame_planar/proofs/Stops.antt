-- A writer that fails inside a block has received a beginning of all bytes, and a reader is
-- unchanged if memory runs out.
use Rattle.std.proofs.Common.{ℕ, ◌≡◌, ◌+◌, ◌<◌, ◌≤◌, ◌≢◌, ◌⊎◌, ⊎_elim, Bool, true, false, List, ◌++◌, length, take}
use Rattle.std.proofs.Common.{take_all, Option}
use Rattle.std.proofs.Common.{Result, Ok, Err, IfErr, IsErrAnd, refl, ◌∙◌, arith, length-append, length-take-le}
use Rattle.std.specs.Prelude.{IfOk, MatchBool}
use Rattle.std.proofs.lemmas.List.{take-append-le}
use Rattle.std.proofs.Math.Seq.{take-append-add}
use Rattle.std.specs.Io.KnownBytes.{Appends, Consumes, IsAtEnd}
use Rattle.std.proofs.KnownBytes.{Appends-trans}
use Rattle.v_frame_planar.specs.Counted.{Watched, AppendsBeginning, StopsWriting}
use Rattle.v_frame.specs.Prelude.{isize_max}
use Rattle.v_frame_planar.specs.Planar.{error_of, MayStopReading, MayStopWriting, Reads}
use Rattle.v_frame_planar.specs.declared.counted.WriteFault.{WriteFault}
use Rattle.v_frame_planar.specs.declared.counted.WriteFault.TheVariants.{Failed, TookNothing}
use Rattle.v_frame_planar.specs.declared.error.PlanarError.{PlanarError}
use Rattle.v_frame_planar.specs.declared.error.PlanarError.TheVariants.{Truncated, TooLarge, OutOfMemory}

module _ (front part rest : List ℕ) where
  later : (old mid new : Option (List ℕ)) → Appends old mid front → AppendsBeginning mid new part → AppendsBeginning
      old new (front ++ (part ++ rest))
  later old mid new sent beginning =
      let count = beginning.0 in
      let taken = Appends-trans old mid new front (take count part) sent beginning.2 in (
        length front + count,
        simp length-append (omega (arith, beginning.1)),
        rw (take-append-add front (part ++ rest) count, take-append-le count part rest (omega (arith, beginning.1)))
            taken,
      )

  pub stops_later : {W : Type 0} (contents : W → Option (List ℕ)) (old mid new : Watched W) → Appends
      (contents old.inner) (contents mid.inner) front →
      mid.failures ≡ old.failures → (fault : WriteFault) → StopsWriting contents mid new part fault
      → MayStopWriting contents old new (front ++ (part ++ rest)) (error_of fault)
  stops_later contents old mid new sent same Failed stopped = (later _ _ _ sent stopped.0, rw same at stopped.1)
  stops_later contents old mid new sent same TookNothing stopped = (later _ _ _ sent stopped.0, stopped.1 ∙ same)

-- If memory for n bytes is not available, nothing was read.
pub no_room : {R : Type 0} (remaining : R → Option (List ℕ)) (reader : Watched R) (n : ℕ)
    (result : Result Bool PlanarError) (error : PlanarError)
    → IsErrAnd result (λ given. given ≡ error) → ((error ≡ OutOfMemory) × (n ≤ isize_max)) ⊎
    ((error ≡ TooLarge) × (isize_max < n))
    → IfErr result (MayStopReading remaining reader reader n)
no_room remaining reader n (Ok more) error is why = tt
no_room remaining reader n (Err given) error is why = rw is
    (⊎_elim (λ refused. rw refused.0 (refused.1, refl)) (λ large. rw large.0 (large.1, refl)) why)

-- A reader that filled only the front of a buffer is at its end.
module _ {R : Type 0} (remaining : R → Option (List ℕ)) (old new : Watched R) (bytes : List ℕ) (found : ℕ)
    (got : Consumes (remaining old.inner) (remaining new.inner) (take found bytes))
    (end : found < length bytes → IsAtEnd (remaining new.inner))
    (X : Type 0) where
  -- The bytes in the frame are those that were read, or nothing was read.
  pub was_read : (all : List ℕ) (result : Result Bool PlanarError)
      → IfOk result (λ more. MatchBool more ((found ≡ length bytes) × (all ≡ bytes))
      ((found ≡ 0) × (found ≢ length bytes) × X))
      → IfOk result (Reads remaining old new all)
  was_read all (Ok true) shown = let whole = take_all found bytes (omega (arith, shown.0)) in rw shown.1
      (rw whole at got)
  was_read all (Ok false) shown = (rw shown.0 at got, end (omega (arith, shown)))
  was_read all (Err error) shown = tt

  -- The error is that of a stream that ended inside a frame.
  pub was_truncated : (n : ℕ) (result : Result Bool PlanarError) → length bytes ≡ n → found ≤ length bytes →
      new.failures ≡ old.failures
      → IfErr result (λ error. (error ≡ Truncated (length bytes) found) × (found ≢ 0) × (found ≢ length bytes) × X)
      → IfErr result (MayStopReading remaining old new n)
  was_truncated n (Ok more) size within kept stopped = tt
  was_truncated n (Err error) size within kept stopped =
      let less : found < length bytes = omega (arith, stopped) in
      rw stopped.0 (
        size,
        omega (arith, stopped),
        omega arith,
        (take found bytes, got, length-take-le found bytes within),
        end less,
        kept,
      )
