-- The bytes that contracts name.
use Rattle.std.specs.Prelude.{ℕ, ◌≡◌, [], ◌∷◌, codes, if◌then◌else◌, refl}
use Rattle.std.specs.Char.{is_ascii_graphic}

-- The byte that ends a line.
abbrev pub line_feed : ℕ
line_feed = 10

-- The byte in front of the line feed, if a line ends in CRLF.
abbrev pub carriage_return : ℕ
carriage_return = 13

-- The byte in front of each parameter.
abbrev pub space : ℕ
space = 32

abbrev pub plus_sign : ℕ
plus_sign = 43

abbrev pub digit_zero : ℕ
digit_zero = 48

abbrev pub digit_nine : ℕ
digit_nine = 57

-- The byte between the numbers of a ratio.
abbrev pub colon : ℕ
colon = 58

abbrev pub question_mark : ℕ
question_mark = 63

-- The character that a message displays for a byte: the byte itself if it is printable ASCII, and
-- `?` otherwise.
abbrev pub shown_byte : ℕ → ℕ
shown_byte byte = if is_ascii_graphic byte then byte else question_mark

-- The letters of parameters: W, H, F, I, A, C and X.
abbrev pub width_letter : ℕ
width_letter = 87

abbrev pub height_letter : ℕ
height_letter = 72

abbrev pub rate_letter : ℕ
rate_letter = 70

abbrev pub interlacing_letter : ℕ
interlacing_letter = 73

abbrev pub aspect_letter : ℕ
aspect_letter = 65

abbrev pub color_letter : ℕ
color_letter = 67

abbrev pub extension_letter : ℕ
extension_letter = 88

-- The names match the characters.
signs_by_name : codes "\n\r +09:?"
    ≡ line_feed ∷ carriage_return ∷ space ∷ plus_sign ∷ digit_zero ∷ digit_nine ∷ colon
    ∷ question_mark ∷ []
signs_by_name = refl

letters_by_name : codes "WHFIACX"
    ≡ width_letter ∷ height_letter ∷ rate_letter ∷ interlacing_letter ∷ aspect_letter
    ∷ color_letter ∷ extension_letter ∷ []
letters_by_name = refl
