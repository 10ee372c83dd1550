-- The faults of header lines that are rejected.
use Rattle.std.specs.Prelude.{ℕ, ◌≡◌, ◌≢◌, ◌^◌, ◌<◌, ◌≤◌, ◌⊎◌, All, Contains, List, [], ◌∷◌, drop, length, slice_index}
use Rattle.std.specs.Prelude.{Some}
use Rattle.std.specs.Fmt.{decimal}
use Rattle.v_frame_y4m.specs.Ascii.{aspect_letter, color_letter, digit_nine, digit_zero, extension_letter}
use Rattle.v_frame_y4m.specs.Ascii.{height_letter, interlacing_letter, rate_letter, width_letter}
use Rattle.v_frame_y4m.specs.Color.{color_text, stated}
use Rattle.v_frame_y4m.specs.Header.{of_letter, letters, interlacing_text, pieces, ratio_text, signature, FitsRatio}
use Rattle.v_frame_y4m.specs.declared.color.Color.{Color}
use Rattle.v_frame_y4m.specs.declared.header.Ratio.{Ratio}
use Rattle.v_frame_y4m.specs.declared.header.Interlacing.{Interlacing}
use Rattle.v_frame_y4m.specs.declared.error.HeaderError.{HeaderError}
use Rattle.v_frame_y4m.specs.declared.error.HeaderError.TheVariants.{NotAStream, Missing, Duplicate, Malformed}
use Rattle.v_frame_y4m.specs.declared.error.HeaderError.TheVariants.{ZeroSize, SizeTooLarge, UnknownColor, OutOfMemory}

-- The bytes are ASCII digits without a leading zero.
abbrev pub AreDigits : List ℕ → Type 0
AreDigits text =
    (digit_zero < slice_index text 0)
    × All (λ byte. (digit_zero ≤ byte) × (byte ≤ digit_nine)) text

-- A letter that may occur only once.
abbrev pub IsOnce : ℕ → Type 0
IsOnce letter = Contains letters letter × (letter ≢ extension_letter)

module _ (parameters : List (List ℕ)) where
  -- This is the only parameter with its letter, and its value is not valid.
  abbrev pub HasNoNumber : ℕ → List ℕ → Type 0
  HasNoNumber letter text =
      (of_letter letter parameters ≡ text ∷ [])
      × ((n : ℕ) → n < 2 ^ 64 → text ≢ letter ∷ decimal n)

  abbrev pub HasNoRatio : ℕ → List ℕ → Type 0
  HasNoRatio letter text =
      (of_letter letter parameters ≡ text ∷ [])
      × ((r : Ratio) → FitsRatio r → text ≢ letter ∷ ratio_text r)

  abbrev pub HasNoInterlacing : List ℕ → Type 0
  HasNoInterlacing text =
      (of_letter interlacing_letter parameters ≡ text ∷ [])
      × ((i : Interlacing) → text ≢ interlacing_letter ∷ interlacing_text i)

  abbrev pub HasNoColor : List ℕ → Type 0
  HasNoColor text =
      (of_letter color_letter parameters ≡ text ∷ [])
      × ((c : Color) → stated c ≡ Some c → text ≢ color_letter ∷ color_text c)

  -- A statement about the parameter W or H.
  abbrev pub IsOfSize : (ℕ → Type 0) → Type 0
  IsOfSize P = P width_letter ⊎ P height_letter

  -- These parameters have a fault for which the error may be reported.
  abbrev pub HasFault : HeaderError → Type 0
  HasFault NotAStream = ⊥
  HasFault (Missing letter) =
      (of_letter letter parameters ≡ []) × IsOfSize (λ required. letter ≡ required)
  HasFault (Duplicate letter) =
      (1 < length (of_letter letter parameters)) × IsOnce letter
  HasFault (Malformed text) =
      (Contains parameters text.bytes × ¬ (Contains letters (slice_index text.bytes 0)))
      ⊎ ((IsOfSize (λ letter. HasNoNumber letter text.bytes) × ¬ (AreDigits (drop 1 text.bytes)))
      ⊎ (HasNoRatio rate_letter text.bytes
      ⊎ (HasNoRatio aspect_letter text.bytes ⊎ HasNoInterlacing text.bytes)))
  HasFault (ZeroSize letter) =
      (of_letter letter parameters ≡ (letter ∷ decimal 0) ∷ [])
      × IsOfSize (λ required. letter ≡ required)
  HasFault (SizeTooLarge text) =
      IsOfSize (λ letter. HasNoNumber letter text.bytes)
      × AreDigits (drop 1 text.bytes)
  HasFault (UnknownColor text) = HasNoColor text.bytes
  HasFault OutOfMemory = Unit {0}

-- This line may be rejected with the error.
abbrev pub IsRefusedFor : List ℕ → HeaderError → Type 0
IsRefusedFor line error =
    (error ≡ OutOfMemory)
    ⊎ (((error ≡ NotAStream)
    × ((parameters : List (List ℕ)) → pieces line ≢ signature ∷ parameters))
    ⊎ ((parameters : List (List ℕ)) × (pieces line ≡ signature ∷ parameters)
    × HasFault parameters error))
