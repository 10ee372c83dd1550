-- The first bytes of a file, which are inspected before they are read.
use Rattle.std.proofs.Common.{ℕ, ◌≡◌, ◌≤◌, ◌<◌, ◌+◌, ◌-◌, List, [], ◌++◌, length, take, drop, min, Option, Some, None, refl, sym, ◌∙◌, ap, subst, arith, append_assoc, append-nil, length-append, inl, inr, ◌⊎◌, Bool, Result}
use Rattle.std.specs.Prelude.{◌↔◌, slice_range, IfSome, IsTrue}
use Rattle.std.specs.Io.KnownBytes.{prepend_known, Consumes, IsAtEnd, Keeps, ReadConsumes}
use Rattle.std.proofs.Math.Nat.{eq-or-lt_of_le}
use Rattle.std.proofs.Math.Seq.{take-add, take-append_seam}
use Rattle.std.proofs.lemmas.List.{drop-drop, length-drop, length-take, length-take-le}
use Rattle.v_frame_y4m.specs.Header.{signature}
use Rattle.yuv_system.specs.InputFiles.{bytes_of_input, bytes_of_reader, BeginsAsAStream, IsReadOn}
use Rattle.yuv_system.specs.declared.input_file.InputFile.{InputFile}

module _ (first : List ℕ) (given known : ℕ) where
  -- The unread inspected bytes are the bytes that are taken next, followed by the others.
  parted : (count : ℕ) → given + count ≤ known
      → slice_range first given known ≡ slice_range first given (given + count) ++ slice_range first (given + count) known
  parted count within =
      ap (λ (n : ℕ). take n (drop given first)) {x = known - given} {y = (given + count - given) + (known - (given + count))} (omega arith)
      ∙ take-add (given + count - given) (known - (given + count)) (drop given first)
      ∙ ap (λ (bytes : List ℕ). take (given + count - given) (drop given first) ++ take (known - (given + count)) bytes)
      (drop-drop (given + count - given) given first
      ∙ ap (λ (n : ℕ). drop n first) {x = given + (given + count - given)} {y = given + count} (omega arith))

  module _ (rest : Option (List ℕ)) (count : ℕ) (within : given + count ≤ known) where
    gives_on : Consumes (prepend_known (slice_range first given known) rest)
        (prepend_known (slice_range first (given + count) known) rest) (slice_range first given (given + count))
    gives_on = of_known rest
      where
        of_known : (rest : Option (List ℕ)) → Consumes (prepend_known (slice_range first given known) rest)
            (prepend_known (slice_range first (given + count) known) rest) (slice_range first given (given + count))
        of_known None = tt
        of_known (Some bytes) =
            ap (λ (front : List ℕ). front ++ bytes) (parted count within)
            ∙ append_assoc (slice_range first given (given + count)) (slice_range first (given + count) known) bytes

  -- A read returns inspected bytes, up to the length of the buffer.
  module _ (count : ℕ) (buf written : List ℕ) (order : given ≤ known) (some : given ≡ known → ⊥)
      (counted : count ≡ min (length buf) (known - given)) (long : length written ≡ length (take count buf))
      (same : written ≡ slice_range first given (given + count)) where
    as_long : length written ≡ count
    as_long = long ∙ length-take-le count buf (omega arith)

    pub reads_first : (rest : Option (List ℕ)) → Consumes (prepend_known (slice_range first given known) rest)
        (prepend_known (slice_range first (given + count) known) rest) (take count (written ++ drop count buf))
    reads_first rest =
        subst (Consumes (prepend_known (slice_range first given known) rest)
        (prepend_known (slice_range first (given + count) known) rest))
        (sym (ap (λ (n : ℕ). take n (written ++ drop count buf)) (sym as_long)
        ∙ take-append_seam written (drop count buf) ∙ same))
        (gives_on rest count (omega arith))

    pub has_room : count ≡ 0 → 0 < length (written ++ drop count buf) → ⊥
    has_room none room =
        let long_buf = length-append written (drop count buf) in
        let long_rest = length-drop count buf in
        let long_written = as_long in omega arith

  module _ (all : given ≡ known) where
    none_is_left : slice_range first given known ≡ []
    none_is_left = ap (λ (n : ℕ). take n (drop given first)) {x = known - given} {y = 0} (omega arith)

    -- If no inspected bytes are left, a read returns the bytes that follow them.
    pub reads_on : {E : Type 0} (old new : Option (List ℕ)) (result : Result ℕ E) (bytes : List ℕ) → ReadConsumes old new result bytes
        → ReadConsumes (prepend_known (slice_range first given known) old)
        (prepend_known (slice_range first given known) new) result bytes
    reads_on old new result bytes done =
        subst (λ (left : List ℕ). ReadConsumes (prepend_known left old) (prepend_known left new) result bytes)
        (sym none_is_left) (bare old new done)
      where
        bare : (old new : Option (List ℕ)) → ReadConsumes old new result bytes
            → ReadConsumes (prepend_known [] old) (prepend_known [] new) result bytes
        bare None None done = done
        bare None (Some _) done = done
        bare (Some _) None done = done
        bare (Some _) (Some _) done = done

    -- Bytes that are then inspected are still to be read.
    module _ (buf : List ℕ) (found : ℕ) where
      pub looked_at : (old new : Option (List ℕ)) → Consumes old new (take found buf)
          → Keeps (prepend_known (slice_range first given known) old) (prepend_known (slice_range buf 0 found) new)
      looked_at old new read =
          subst (λ (front : List ℕ). Keeps (prepend_known front old) (prepend_known (slice_range buf 0 found) new))
          (sym none_is_left) (bare old new read)
        where
          bare : (old new : Option (List ℕ)) → Consumes old new (take found buf)
              → Keeps (prepend_known [] old) (prepend_known (slice_range buf 0 found) new)
          bare None new read = tt
          bare (Some bytes) None read = absurd read
          bare (Some bytes) (Some rest) read =
              ap (λ (n : ℕ). take n buf ++ rest) {x = found - 0} {y = found} (omega arith) ∙ sym read

-- A file begins with the bytes of a stream if the inspected bytes, up to nine, are these bytes.
module _ (buf mark : List ℕ) (found : ℕ) (bound : found ≤ length buf) (long : length buf ≡ 9) (nine : length mark ≡ 9) where
  module _ (bytes rest : List ℕ) (read : bytes ≡ take found buf ++ rest) (ends : found < length buf → rest ≡ []) where
    forth : take found buf ≡ mark → take 9 bytes ≡ mark
    forth same =
        ap (λ (all : List ℕ). take 9 all) (read ∙ ap (λ (front : List ℕ). front ++ rest) same)
        ∙ ap (λ (n : ℕ). take n (mark ++ rest)) (sym nine) ∙ take-append_seam mark rest

    whole : found ≡ length buf → take 9 bytes ≡ mark → take found buf ≡ mark
    whole all same =
        let nine_read = length-take-le found buf bound ∙ all ∙ long in
        sym (ap (λ (list : List ℕ). take 9 list) read
        ∙ ap (λ (n : ℕ). take n (take found buf ++ rest)) (sym nine_read)
        ∙ take-append_seam (take found buf) rest) ∙ same

    too_few : found < length buf → take 9 bytes ≡ mark → ⊥
    too_few less same =
        let all = read ∙ ap (λ (more : List ℕ). take found buf ++ more) (ends less) ∙ append-nil (take found buf) in
        let short = ap (λ (list : List ℕ). length (take 9 list)) all ∙ length-take 9 (take found buf) in
        let as_long = ap (λ (list : List ℕ). length list) same in
        let few = length-take-le found buf bound in omega arith

    back : take 9 bytes ≡ mark → take found buf ≡ mark
    back same = by_length (eq-or-lt_of_le bound)
      where
        by_length : (found ≡ length buf) ⊎ (found < length buf) → take found buf ≡ mark
        by_length (inl all) = whole all same
        by_length (inr less) = absurd (too_few less same)

  -- A file whose inspected bytes have all been read begins as a stream if the bytes inspected next
  -- do.
  module _ (first : List ℕ) (given known : ℕ) (all : given ≡ known) (yes : Bool) (told : IsTrue yes ↔ (take found buf ≡ mark)) where
    pub begins : (old new : Option (List ℕ)) → Consumes old new (take found buf) → (found < length buf → IsAtEnd new)
        → IfSome (prepend_known (slice_range first given known) old) (λ bytes. IsTrue yes ↔ (take 9 bytes ≡ mark))
    begins None new read ends = tt
    begins (Some bytes) None read ends = absurd read
    begins (Some bytes) (Some rest) read ends =
        subst (λ (front : List ℕ). IsTrue yes ↔ (take 9 (front ++ bytes) ≡ mark)) (sym (none_is_left first given known all))
        (λ is. forth bytes rest read ends (told.0 is), λ same. told.1 (back bytes rest read ends same))

-- The inspected bytes determine whether a file begins as a stream does.
pub begins_as : {F I : Type 0} (file : F → Option (List ℕ)) (standard : I → Option (List ℕ)) (input : InputFile F I)
    (buf : List ℕ) (found : ℕ) (is_mark : Bool) (new : Option (List ℕ)) → IsReadOn input → found ≤ length buf → length buf ≡ 9
    → (IsTrue is_mark ↔ (take found buf ≡ signature)) → Consumes (bytes_of_reader file standard input.reader.inner) new (take found buf)
    → (found < length buf → IsAtEnd new)
    → IfSome (bytes_of_input file standard input) (λ bytes. IsTrue is_mark ↔ BeginsAsAStream bytes)
begins_as file standard input buf found is_mark new read_on bound long told read ends =
    begins buf signature found bound long refl input.first input.given input.known read_on is_mark told
    (bytes_of_reader file standard input.reader.inner) new read ends
