-- The grammar of the header line, which is given without its line feed: `YUV4MPEG2`, followed by
-- parameters. Each parameter has a space in front of it and begins with its letter.
use Rattle.std.specs.Prelude.{ℕ, ◌≡◌, ◌≢◌, ◌^◌, ◌<◌, ◌==◌, All, Contains, List, [], ◌∷◌, ◌++◌, codes, filter, flat_map}
use Rattle.std.specs.Prelude.{map, slice_index, IfSome, Option, Some, None}
use Rattle.std.specs.Borrow.{Bor}
use Rattle.std.specs.List.{slice_split}
use Rattle.std.specs.Fmt.{decimal}
use Rattle.v_frame_y4m.specs.Ascii.{aspect_letter, colon, color_letter, extension_letter, height_letter}
use Rattle.v_frame_y4m.specs.Ascii.{interlacing_letter, line_feed, rate_letter, space, width_letter}
use Rattle.v_frame_y4m.specs.Color.{color_text, stated}
use Rattle.v_frame_y4m.specs.declared.header.Ratio.{Ratio}
use Rattle.v_frame_y4m.specs.declared.header.Interlacing.{Interlacing}
use Rattle.v_frame_y4m.specs.declared.header.Interlacing.TheVariants.{Progressive, TopFirst, BottomFirst, Mixed}
use Rattle.v_frame_y4m.specs.declared.header.Interlacing.TheVariants.{Unknown}
use Rattle.v_frame_y4m.specs.declared.header.StreamHeader.{StreamHeader}

abbrev pub signature : List ℕ
signature = codes "YUV4MPEG2"

-- The pieces of a line between its spaces.
abbrev pub pieces : List ℕ → List (List ℕ)
pieces line = slice_split (λ byte. byte == space) line

-- The contents of slices, in their order.
abbrev pub texts_of : List (Bor (List ℕ)) → List (List ℕ)
texts_of slices = map (λ slice. slice.now) slices

-- The parameters with a letter, in their order.
abbrev pub of_letter : ℕ → List (List ℕ) → List (List ℕ)
of_letter letter parameters = filter (λ parameter. slice_index parameter 0 == letter) parameters

-- An optional parameter.
abbrev pub parameter_of : {A : Type 0} → ℕ → (A → List ℕ) → Option A → List (List ℕ)
parameter_of letter spell None = []
parameter_of letter spell (Some a) = (letter ∷ spell a) ∷ []

-- Two decimal numbers with a colon between them.
abbrev pub ratio_text : Ratio → List ℕ
ratio_text r = decimal r.numerator ++ colon ∷ decimal r.denominator

abbrev pub interlacing_text : Interlacing → List ℕ
interlacing_text Progressive = codes "p"
interlacing_text TopFirst = codes "t"
interlacing_text BottomFirst = codes "b"
interlacing_text Mixed = codes "m"
interlacing_text Unknown = codes "?"

abbrev pub FitsRatio : Ratio → Type 0
FitsRatio r = (r.numerator < 2 ^ 64) × (r.denominator < 2 ^ 64)

-- The letters W, H, F, I, A, C and X.
abbrev pub letters : List ℕ
letters = codes "WHFIACX"

-- The parameters state the header `h`: W and H occur once, F, I, A and C once if the header has
-- them, and X once for each extension. Different letters may be in any order.
pub record Says (parameters : List (List ℕ)) (h : StreamHeader) : Type 0 where
  pub width : of_letter width_letter parameters ≡ (width_letter ∷ decimal h.width) ∷ []
  pub height : of_letter height_letter parameters ≡ (height_letter ∷ decimal h.height) ∷ []
  pub frame_rate : of_letter rate_letter parameters
      ≡ parameter_of rate_letter ratio_text h.frame_rate
  pub interlacing : of_letter interlacing_letter parameters
      ≡ parameter_of interlacing_letter interlacing_text h.interlacing
  pub pixel_aspect : of_letter aspect_letter parameters
      ≡ parameter_of aspect_letter ratio_text h.pixel_aspect
  pub color : of_letter color_letter parameters
      ≡ parameter_of color_letter color_text (stated h.color)
  pub extensions : of_letter extension_letter parameters
      ≡ map (λ text. extension_letter ∷ text) h.extensions
  pub known : All (λ parameter. Contains letters (slice_index parameter 0)) parameters

-- The numbers of a header fit into 64 bits, and the picture has at least one pixel.
pub record HasSize (h : StreamHeader) : Type 0 where
  pub width : (0 < h.width) × (h.width < 2 ^ 64)
  pub height : (0 < h.height) × (h.height < 2 ^ 64)
  pub frame_rate : IfSome h.frame_rate FitsRatio
  pub pixel_aspect : IfSome h.pixel_aspect FitsRatio

-- The line is a header line and states the header `h`.
pub record IsHeader (line : List ℕ) (h : StreamHeader) : Type 0 where
  pub parameters : List (List ℕ)
  pub pieces : pieces line ≡ signature ∷ parameters
  pub says : Says parameters h
  pub size : HasSize h

-- The parameters of a header, in the order of the writer.
abbrev pub parameters_of : StreamHeader → List (List ℕ)
parameters_of h =
    (width_letter ∷ decimal h.width) ∷ (height_letter ∷ decimal h.height)
    ∷ (parameter_of rate_letter ratio_text h.frame_rate
    ++ (parameter_of interlacing_letter interlacing_text h.interlacing
    ++ (parameter_of aspect_letter ratio_text h.pixel_aspect
    ++ (parameter_of color_letter color_text (stated h.color)
    ++ map (λ text. extension_letter ∷ text) h.extensions))))

-- Each parameter after a space.
abbrev pub spelled : List (List ℕ) → List ℕ
spelled parameters = flat_map (λ parameter. space ∷ parameter) parameters

-- The line that is written for a header.
abbrev pub header_line : StreamHeader → List ℕ
header_line h = signature ++ spelled (parameters_of h)

-- No byte is a space or a line feed.
abbrev pub IsPiece : List ℕ → Type 0
IsPiece text = All (λ byte. (byte ≢ space) × (byte ≢ line_feed)) text

-- The header can be written.
pub record IsWritable (h : StreamHeader) : Type 0 where
  pub width : 0 < h.width
  pub height : 0 < h.height
  pub extensions : All IsPiece h.extensions

-- The parameters are in the order of the writer.
abbrev pub IsInOrder : List (List ℕ) → Type 0
IsInOrder parameters = parameters ≡ flat_map (λ letter. of_letter letter parameters) letters
