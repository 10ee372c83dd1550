-- The lines of statistics and of checksums.
use Rattle.std.specs.Prelude.{ℕ, ◌≡◌, ◌/◌, ◌%◌, ◌∷◌, ◌++◌, ◌==◌, [], if◌then◌else◌, List, Option, Some, None, codes, decimal, map}
use Rattle.std.specs.Char.{digit_char}
use Rattle.v_frame_formats.specs.Prelude.{letter_of}
use Rattle.yuv_reports.specs.declared.samples.Checksums.{Checksums}
use Rattle.yuv_reports.specs.declared.samples.Checksums.TheVariants.{Frame, Planes}
use Rattle.yuv_reports.specs.declared.samples.SampleStatistics.{SampleStatistics}

-- ---- statistics

-- The text before the mean.
abbrev pub statistics_front : SampleStatistics → List ℕ
statistics_front found =
    letter_of found.plane
    ++ (codes ": minimum "
    ++ (decimal found.minimum
    ++ (codes ", maximum " ++ (decimal found.maximum ++ codes ", mean "))))

-- The text with the number of samples above the greatest value of the bit depth, or no text if
-- there are none.
abbrev pub above_said : ℕ → ℕ → List ℕ
above_said most above =
    if above == 0 then []
    else codes ", above " ++ (decimal most ++ (codes ": " ++ decimal above))

-- The text after the mean.
abbrev pub statistics_end : SampleStatistics → List ℕ
statistics_end found =
    codes ", outside the nominal range "
    ++ (decimal found.outside ++ (above_said found.most found.above ++ (10 ∷ [])))

-- The line of a plane was appended, with some mean.
abbrev pub AppendsStatistics : List ℕ → List ℕ → SampleStatistics → Type 0
AppendsStatistics old new found =
    (mean : List ℕ) × (new ≡ old ++ (statistics_front found ++ (mean ++ statistics_end found)))

-- ---- checksums

-- The place values of the eight hexadecimal digits of a number of 32 bits.
abbrev pub places : List ℕ
places =
    0x1000_0000
    ∷ (0x100_0000 ∷ (0x10_0000 ∷ (0x1_0000 ∷ (0x1000 ∷ (0x100 ∷ (0x10 ∷ (1 ∷ [])))))))

-- The hexadecimal digit of a number with this place value.
abbrev pub digit_at : ℕ → ℕ → ℕ
digit_at number place = digit_char (number / place % 16)

-- A space and a checksum of eight hexadecimal digits.
abbrev pub checksum_word : ℕ → List ℕ
checksum_word sum = codes " " ++ map (digit_at sum) places

-- The checksums of U and V, if the frame has chroma.
abbrev pub chroma_words : Option (ℕ × ℕ) → List ℕ
chroma_words None = []
chroma_words (Some sums) = checksum_word sums.0 ++ checksum_word sums.1

abbrev pub sum_words : Checksums → List ℕ
sum_words (Frame sum) = checksum_word sum
sum_words (Planes y chroma) = checksum_word y ++ chroma_words chroma

-- The line of a frame.
abbrev pub checksums_line : ℕ → Checksums → List ℕ
checksums_line frame sums = decimal frame ++ (sum_words sums ++ (10 ∷ []))
