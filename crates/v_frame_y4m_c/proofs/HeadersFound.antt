-- The header of numbers.
use Rattle.std.proofs.Common.{ℕ, ◌≡◌, List, All, ap, inl, inr, refl, sym, subst}
use Rattle.std.specs.Prelude.{Option, Some}
use Rattle.v_frame.specs.Prelude.{ChromaSubsampling}
use Rattle.v_frame_y4m.specs.Color.{color_with, depth_of, siting_of, subsampling_of}
use Rattle.v_frame_y4m.specs.declared.color.ChromaSiting.{ChromaSiting}
use Rattle.v_frame_y4m.specs.declared.color.Color.{Color}
use Rattle.v_frame_y4m.specs.declared.header.StreamHeader.{StreamHeader}
use Rattle.v_frame_slices.specs.Formats.{format_number}
use Rattle.v_frame_y4m.specs.Header.{IsPiece}
use Rattle.v_frame_y4m_c.specs.Extensions.{range_number, HasExtensions}
use Rattle.v_frame_y4m_c.specs.Header.{interlacing_number, numbers_of, ratio_numbers, siting_number}
use Rattle.v_frame_y4m_c.specs.Numbers.{without_range, IsHeaderOf, IsWrittenHeader}
use Rattle.v_frame_y4m_c.specs.declared.header.Header.{Header}

-- a header whose numbers are the given ones, one by one, has all of them
pub same_numbers : (n : Header) (h : StreamHeader) → h.width ≡ n.width → h.height ≡ n.height
    → ratio_numbers h.frame_rate ≡ n.frame_rate → ratio_numbers h.pixel_aspect ≡ n.pixel_aspect
    → format_number (subsampling_of h.color) ≡ n.format → depth_of h.color ≡ n.bit_depth
    → siting_number (siting_of h.color) ≡ n.siting → interlacing_number h.interlacing ≡ n.interlacing
    → range_number h.extensions ≡ 0 → numbers_of h ≡ without_range n
same_numbers n h width height rate aspect format depth siting interlacing range = rw (width, height, rate, aspect, format, depth, siting, interlacing, range)

-- a color that was found is found again by its own format, depth and siting
pub found_by_its_own : (f : ChromaSubsampling) (bits : ℕ) (siting : Option ChromaSiting) (c : Color)
    → color_with f bits siting ≡ Some c → subsampling_of c ≡ f → depth_of c ≡ bits → siting_of c ≡ siting
    → color_with (subsampling_of c) (depth_of c) (siting_of c) ≡ Some c
found_by_its_own f bits siting c found format depth sited =
    let at_format = subst (λ (x : ChromaSubsampling). color_with x bits siting ≡ Some c) (sym format) found in
    let at_depth = subst (λ (x : ℕ). color_with (subsampling_of c) x siting ≡ Some c) (sym depth) at_format in
    subst (λ (x : Option ChromaSiting). color_with (subsampling_of c) (depth_of c) x ≡ Some c) (sym sited) at_depth

-- extensions that a text states are parts of a header line
pieces_said : (range : ℕ) (text : List ℕ) (xs : List (List ℕ)) → HasExtensions range text xs → All IsPiece xs
pieces_said range text xs has = elim has.said [
  | inl said ↦ subst (λ (it : List (List ℕ)). All IsPiece it) said.3 said.2.writable.extensions
  | inr said ↦ subst (λ (it : List (List ℕ)). All IsPiece it) said.3 said.2.writable.extensions
]

-- a header with these extensions has the range that they state
with_extensions : (n : Header) (h : StreamHeader) (xs : List (List ℕ)) → numbers_of h ≡ without_range n
    → range_number xs ≡ n.range → numbers_of (record h { extensions = xs }) ≡ n
with_extensions n h xs numbers range =
    rw (
      ap (λ (m : Header). m.width) numbers,
      ap (λ (m : Header). m.height) numbers,
      ap (λ (m : Header). m.frame_rate) numbers,
      ap (λ (m : Header). m.pixel_aspect) numbers,
      ap (λ (m : Header). m.format) numbers,
      ap (λ (m : Header). m.bit_depth) numbers,
      ap (λ (m : Header). m.siting) numbers,
      ap (λ (m : Header). m.interlacing) numbers,
      range,
    )

-- the header that is written: the numbers, and the extensions of the text
pub written : (n : Header) (text : List ℕ) (h : StreamHeader) (xs : List (List ℕ)) → IsHeaderOf n h
    → HasExtensions n.range text xs → IsWrittenHeader n text (record h { extensions = xs })
written n text h xs is has = record {
  numbers = with_extensions n h xs is.numbers has.stated;
  writable = record { width = is.writable.width; height = is.writable.height; extensions = pieces_said n.range text xs has };
  color = is.color;
  extensions = has;
}
