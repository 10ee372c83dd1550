-- The effect of a frame on the reader after the line in front of it.
use Rattle.std.proofs.Common.{ℕ, ◌≡◌, ◌≤◌, ◌⊎◌, List, [], ◌∷◌, ◌++◌, length, Option, refl, sym, ◌∙◌, ap, subst, rules}
use Rattle.std.proofs.Common.{append_assoc}
use mathlib.Core.Logic.{inl, inr}
use Rattle.std.specs.Prelude.{Result, Ok, Err, IfErr, IsErrAnd}
use Rattle.std.specs.Io.KnownBytes.{Consumes, IsAtEnd}
use Rattle.std.proofs.KnownBytes.{Consumes-nil, Consumes-trans}
use Rattle.v_frame_planar.specs.Counted.{Watched, HasFailed}
use Rattle.v_frame_planar.specs.Planar.{MayStopReading}
use Rattle.v_frame_planar.specs.declared.error.PlanarError.{PlanarError}
use Rattle.v_frame_planar.specs.declared.error.PlanarError.TheVariants.{Truncated, TooLarge, Read, Write, WriteZero}
use Rattle.v_frame_planar.specs.declared.error.PlanarError.TheVariants.{OutOfMemory}
use Rattle.v_frame_y4m.specs.Streams.{max_line_bytes, IsFrameLine, IsLine, MayStopInBytes, MayStopInFrame}
use Rattle.v_frame_y4m.specs.declared.error.Y4mError.{Y4mError}
use Rattle.v_frame_y4m.specs.declared.error.Y4mError.TheVariants.{Planar}

abbrev expected_of : PlanarError → ℕ
expected_of (Truncated expected found) = expected
expected_of TooLarge = 0
expected_of Read = 0
expected_of Write = 0
expected_of WriteZero = 0
expected_of OutOfMemory = 0

abbrev found_of : PlanarError → ℕ
found_of (Truncated expected found) = found
found_of TooLarge = 0
found_of Read = 0
found_of Write = 0
found_of WriteZero = 0
found_of OutOfMemory = 0

module _ {R : Type 0} (remaining : R → Option (List ℕ)) (old mid new : Watched R) (line : List ℕ)
    (read : Consumes (remaining old.inner) (remaining mid.inner) (line ++ 10 ∷ [])) where
  pub after_line : (bytes : List ℕ) → Consumes (remaining mid.inner) (remaining new.inner) bytes
      → Consumes (remaining old.inner) (remaining new.inner) (line ++ 10 ∷ bytes)
  after_line bytes behind = subst (Consumes (remaining old.inner) (remaining new.inner))
      (append_assoc line (10 ∷ []) bytes) (Consumes-trans _ _ _
      (line ++ 10 ∷ []) bytes read behind)

  none_behind : new ≡ mid → Consumes (remaining mid.inner) (remaining new.inner) []
  none_behind same = subst (λ (w : Watched R). Consumes (remaining mid.inner) (remaining w.inner) []) (sym same)
      (Consumes-nil (remaining mid.inner))

  module _ (n : ℕ) (is : IsFrameLine line) (ended : IsLine line) (short : length line ≤ max_line_bytes)
      (same : mid.failures ≡ old.failures) where
    fault_stops : (fault : PlanarError)
        → MayStopReading remaining mid new n fault ⊎
        ((fault ≡ Truncated n 0) × Consumes (remaining mid.inner) (remaining new.inner) [] × IsAtEnd
        (remaining new.inner) × (new.failures ≡ mid.failures))
        → MayStopInFrame remaining old new n (Planar fault)
    fault_stops (Truncated e f) (inl s) = (
      s.0,
      inr s.2,
      (line, is, ended, short, (s.3.0, after_line s.3.0 s.3.1, s.3.2)),
      s.4,
      s.5 ∙ same,
    )
    fault_stops (Truncated e f) (inr s) = (
      ap expected_of s.0,
      inl (ap found_of s.0),
      (line, is, ended, short, ([], after_line [] s.1, sym (ap found_of s.0))),
      s.2,
      s.3 ∙ same,
    )
    fault_stops TooLarge (inl s) = (
      s.0,
      (line, is, ended, short, ([], after_line [] (none_behind s.1), refl)),
      ap
          (λ (w : Watched R). w.failures) s.1 ∙ same,
    )
    fault_stops TooLarge (inr s) = absurd (search (rules, s.0))
    fault_stops OutOfMemory (inl s) = (
      s.0,
      (line, is, ended, short, ([], after_line [] (none_behind s.1), refl)),
      ap (λ (w : Watched R). w.failures) s.1 ∙ same,
    )
    fault_stops OutOfMemory (inr s) = absurd (search (rules, s.0))
    fault_stops Read (inl s) = inr (
      (s.0.0, s.0.1, (line, is, ended, short, (s.0.2.0, after_line s.0.2.0 s.0.2.1, s.0.2.2))),
      subst (λ (k : ℕ). HasFailed k new.failures) same s.1,
    )
    fault_stops Read (inr s) = absurd (search (rules, s.0))
    fault_stops Write (inl s) = s
    fault_stops Write (inr s) = absurd (search (rules, s.0))
    fault_stops WriteZero (inl s) = s
    fault_stops WriteZero (inr s) = absurd (search (rules, s.0))

    pub bytes_stop : (error : Y4mError) → MayStopInBytes remaining mid new n error → MayStopInFrame remaining old new n
        error
    bytes_stop error stopped = subst (MayStopInFrame remaining old new n) (sym stopped.1)
        (fault_stops stopped.0 stopped.2)

-- A statement about an error still holds when the error is returned to the caller.
pub handed_on : {X : Type 0} (P : Y4mError → Type 0) (result : Result X Y4mError) (error : Y4mError) → IsErrAnd result
    (λ given. given ≡ error)
    → P error → IfErr result P
handed_on P (Ok x) error is stopped = tt
handed_on P (Err given) error is stopped = subst P (sym is) stopped
