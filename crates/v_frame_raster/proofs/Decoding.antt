-- Pixels that are decoded from bytes, one or eight at a time.
use Rattle.std.proofs.Common.{ℕ, zero, suc, ◌≡◌, ◌+◌, ◌*◌, ◌<◌, List, [], ◌∷◌, ◌++◌, length, take, drop, get_or, set}
use Rattle.std.proofs.Common.{refl, ap, arith, zero-add, suc-add, ◌≤◌, ◌/◌, ◌%◌, ◌∙◌, map}
use Rattle.std.proofs.lemmas.Simd.{take_more_put_chunk}
use Rattle.std.proofs.lemmas.List.{drop-drop, drop-take, drop_more, map-append, take-take, take_more_set}
use Rattle.std.proofs.lemmas.Slice.{take-put_mid}
use borrow.Rule.Slice.PartMut.{put_mid}
use Rattle.std.specs.Simd.Lanes.{Each1, put_chunk, number_l, digits_l}
use Rattle.v_frame_raster.specs.Pixel.{PixelForm, one_byte, two_bytes, value_of_bytes, pixels_of_bytes}
use Rattle.v_frame_raster.specs.Table.{cut_rows}

-- The pieces of a source are some pieces, followed by the pieces of the rest.
cut_rows-append : {X : Type 0} (width pieces more : ℕ) (source : List X)
    → cut_rows width (pieces + more) source
    ≡ cut_rows width pieces source ++ cut_rows width more (drop (width * pieces) source)
cut_rows-append width zero more source = let none : width * 0 ≡ 0 = omega arith in rw (zero-add more, none)
cut_rows-append width (suc pieces) more source =
    let e : width + width * pieces ≡ width * suc pieces = omega arith in
    rw (
      suc-add pieces more,
      cut_rows-append width pieces more (drop width source),
      drop-drop (width * pieces) width source,
      e,
    )

-- The pieces of a source are those of its front, if this front is long enough.
cut_rows-take : {X : Type 0} (width pieces : ℕ) (source : List X)
    → cut_rows width pieces (take (width * pieces) source) ≡ cut_rows width pieces source
cut_rows-take width zero source = refl
cut_rows-take width (suc pieces) source =
    let e : width * suc pieces ≡ width + width * pieces = omega arith in
    rw (
      e,
      take-take width (width + width * pieces) source (omega arith),
      drop-take width (width * pieces) source,
      cut_rows-take width pieces (drop width source),
    )

-- The pixels of a list of bytes are some pixels, followed by the pixels of the remaining bytes.
pixels_of_bytes-append : {T : Type 0} (form : PixelForm T) (count more : ℕ) (bytes : List ℕ)
    → pixels_of_bytes form (count + more) bytes
    ≡ pixels_of_bytes form count bytes ++ pixels_of_bytes form more (drop (form.size * count) bytes)
pixels_of_bytes-append form count more bytes = rw (cut_rows-append form.size count more bytes, map-append)

pub one_byte_pixels : (bytes : List ℕ) → pixels_of_bytes one_byte (length bytes) bytes ≡ bytes
one_byte_pixels [] = refl
one_byte_pixels (byte ∷ bytes) =
    let value : value_of_bytes (byte ∷ []) ≡ byte = omega arith in rw (value, one_byte_pixels bytes)

-- The first pixels are decoded from the first bytes.
abbrev pub DecodedUpTo : ℕ → List ℕ → List ℕ → Type 0
DecodedUpTo at pixels bytes = take at pixels ≡ pixels_of_bytes two_bytes at bytes

-- One step of a loop that decodes two bytes at a time.
pub two_byte_pixels-more : (pixels bytes : List ℕ) (i pixel : ℕ) → length bytes ≡ 2 * length pixels → i < length pixels
    → pixel ≡ value_of_bytes (get_or bytes (2 * i) 0 ∷ get_or bytes (2 * i + 1) 0 ∷ [])
    → DecodedUpTo i pixels bytes → DecodedUpTo (i + 1) (set pixels i pixel) bytes
two_byte_pixels-more pixels bytes i pixel whole h is so_far =
    let low = drop_more bytes (2 * i) 0 (omega arith) in
    let high = drop_more bytes (2 * i + 1) 0 (omega arith) in
    rw (take_more_set pixels i pixel h, so_far, is, pixels_of_bytes-append two_bytes i 1 bytes, low, high)

-- Eight more pixels are decoded from the next sixteen bytes.
pub two_byte_pixels-eight_more : (pixels bytes lanes : List ℕ) (at : ℕ) → at + 8 ≤ length pixels
    → lanes ≡ pixels_of_bytes two_bytes 8 (drop (2 * at) bytes) → DecodedUpTo at pixels bytes
    → DecodedUpTo (at + 8) (put_chunk at pixels lanes) bytes
two_byte_pixels-eight_more pixels bytes lanes at room is so_far =
    let eight : length lanes ≡ 8 = ap length is in
    rw (
      take_more_put_chunk at pixels lanes (at + 8) (omega arith) (omega arith),
      so_far,
      is,
      pixels_of_bytes-append two_bytes at 8 bytes,
    )

-- Sixteen more pixels are decoded from the next 32 bytes.
pub two_byte_pixels-sixteen_more : (pixels bytes part : List ℕ) (at : ℕ) → at ≤ length pixels
    → part ≡ pixels_of_bytes two_bytes 16 (take 32 (drop (2 * at) bytes)) → DecodedUpTo at pixels bytes
    → DecodedUpTo (at + 16) (put_mid at 16 pixels part) bytes
two_byte_pixels-sixteen_more pixels bytes part at room is so_far =
    let long : length part ≡ 16 = ap length is in
    let same = ap (map (λ b. value_of_bytes b)) (cut_rows-take 2 16 (drop (2 * at) bytes)) in
    take-put_mid at 16 pixels part (at + 16) (omega (arith, long)) room
    ∙ rw (so_far, is, pixels_of_bytes-append two_bytes at 16 bytes, ← same)

-- Lanes of two bytes in little-endian order are the pixels of these bytes.
pub two_byte_pixels-lanes : (count : ℕ) (bytes : List ℕ) → 2 * count ≤ length bytes → Each1 (λ byte. byte < 256) bytes
    → digits_l 65536 count (number_l 256 (take (2 * count) bytes)) ≡ pixels_of_bytes two_bytes count bytes
two_byte_pixels-lanes zero bytes long small = refl
two_byte_pixels-lanes (suc count) (low ∷ high ∷ bytes) long small =
    let e : 2 * suc count ≡ suc (suc (2 * count)) = omega arith in
    let rest : ℕ = number_l 256 (take (2 * count) bytes) in
    let first : (low + 256 * (high + 256 * rest)) % 65536 ≡ value_of_bytes (low ∷ high ∷ []) = omega (arith, small) in
    let left : (low + 256 * (high + 256 * rest)) / 65536 ≡ rest = omega (arith, small) in
    rw (e, first, left, two_byte_pixels-lanes count bytes (omega (arith, long)) small.1.1)
two_byte_pixels-lanes count bytes long small = absurd (omega (arith, long))
