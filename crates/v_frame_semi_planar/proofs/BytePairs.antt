-- Interleaved pixels of one byte: lanes of two bytes, and parts of a list of bytes.
use Rattle.std.proofs.Common.{ℕ, zero, suc, ◌≡◌, ◌+◌, ◌-◌, ◌*◌, ◌/◌, ◌%◌, ◌^◌, ◌<◌, ◌≤◌, List, [], ◌∷◌, ◌++◌, length, take, drop}
use Rattle.std.proofs.Common.{bit_and, refl, sym, ◌∙◌, ap, arith, map, length-take-le}
use Rattle.std.specs.Simd.Lanes.{Each1, number_l, digits_l}
use Rattle.std.proofs.lemmas.List.{take_at, drop_at}
use Rattle.std.proofs.lemmas.Nat.{and_mask}
use Rattle.v_frame.specs.Prelude.{PixelForm, cut_rows, pixels_of_bytes, value_of_bytes}
use Rattle.v_frame_semi_planar.specs.Interleaved.{interleaved}
use Rattle.v_frame_semi_planar.specs.SemiPlanar.{shown_pixels}
use Rattle.v_frame_semi_planar.proofs.Stored.{shown-append, shown-take, shown-parts, length-shown}

-- The low bytes and the high bytes of lanes of two bytes, interleaved, are the bytes.
pub bytes_by_turns : (n : ℕ) (bytes : List ℕ) → 2 * n ≤ length bytes → Each1 (λ byte. byte < 256) bytes
    → let lanes = digits_l 65536 n (number_l 256 (take (2 * n) bytes)) in
    interleaved (map (λ lane. bit_and lane 255) lanes) (map (λ lane. lane / 256) lanes) ≡ take (2 * n) bytes
bytes_by_turns zero bytes long small = refl
bytes_by_turns (suc n) (low ∷ high ∷ bytes) long small =
    let e : 2 * suc n ≡ suc (suc (2 * n)) = omega arith in
    let rest : ℕ = number_l 256 (take (2 * n) bytes) in
    let lane : (low + 256 * (high + 256 * rest)) % 65536 ≡ low + 256 * high = omega (arith, small) in
    let left : (low + 256 * (high + 256 * rest)) / 65536 ≡ rest = omega (arith, small) in
    let first : bit_and (low + 256 * high) 255 ≡ low = and_mask (low + 256 * high) 8 ∙ omega (arith, small) in
    let second : (low + 256 * high) / 256 ≡ high = omega (arith, small) in
    rw (e, lane, left, first, second, bytes_by_turns n bytes (omega (arith, long)) small.1.1)
bytes_by_turns n bytes long small = absurd (omega (arith, long))

module _ {T : Type 0} (form : PixelForm T) where
  -- The pixel of a group of bytes, and of one byte.
  abbrev pixel_of_group : List ℕ → T
  pixel_of_group group = form.pixel_of (value_of_bytes group / 2 ^ 0)

  abbrev pixel_of_bytes : List ℕ → T
  pixel_of_bytes group = form.pixel_of (value_of_bytes group)

  of_group : (b : ℕ) → pixel_of_bytes (b ∷ []) ≡ pixel_of_group (b ∷ [])
  of_group b = ap form.pixel_of (let e : value_of_bytes (b ∷ []) ≡ value_of_bytes (b ∷ []) / 2 ^ 0 = omega arith in e)

  of_one : (b : ℕ) → pixel_of_group (b ∷ []) ≡ form.pixel_of b
  of_one b = ap form.pixel_of (let e : value_of_bytes (b ∷ []) / 2 ^ 0 ≡ b = omega arith in e)

  groups_of_bytes : (bytes : List ℕ) → map form.pixel_of bytes ≡ map pixel_of_bytes (cut_rows 1 (length bytes) bytes)
  groups_of_bytes [] = refl
  groups_of_bytes (b ∷ bytes) =
      let one : pixel_of_bytes (b ∷ []) ≡ form.pixel_of b =
      ap form.pixel_of (let e : value_of_bytes (b ∷ []) ≡ b = omega arith in e) in
      rw one (ap (λ rest. form.pixel_of b ∷ rest) (groups_of_bytes bytes))

  groups_by_turns : (us vs : List ℕ) → length vs ≡ length us
      → interleaved (map pixel_of_bytes (cut_rows 1 (length us) us)) (map pixel_of_bytes (cut_rows 1 (length us) vs))
      ≡ map pixel_of_group (cut_rows 1 (2 * length us) (interleaved us vs))
  groups_by_turns [] [] same = refl
  groups_by_turns (u ∷ us) (v ∷ vs) same =
      let e : 2 * suc (length us) ≡ suc (suc (2 * length us)) = omega arith in
      rw (e, of_group u, of_group v)
      (ap (λ rest. pixel_of_group (u ∷ []) ∷ pixel_of_group (v ∷ []) ∷ rest) (groups_by_turns us vs (omega (arith, same))))
  groups_by_turns us vs same = absurd (omega (arith, same))

  groups_come_back : ((p : T) → form.pixel_of (form.value p) ≡ p) → (xs : List T)
      → map pixel_of_group (cut_rows 1 (length xs) (map form.value xs)) ≡ xs
  groups_come_back same [] = refl
  groups_come_back same (x ∷ xs) = rw (of_one (form.value x), same x, groups_come_back same xs) refl

module _ {T : Type 0} (form : PixelForm T) (byte : form.size ≡ 1) where
  -- The pixels of interleaved bytes are interleaved.
  pub pixels_by_turns_of_bytes : (us vs : List ℕ) → length vs ≡ length us
      → interleaved (pixels_of_bytes form (length us) us) (pixels_of_bytes form (length us) vs)
      ≡ shown_pixels form 0 (2 * length us) (interleaved us vs)
  pixels_by_turns_of_bytes us vs same = rw byte (groups_by_turns form us vs same)

  -- Pixels of one byte each.
  pub pixels_of_each : (bytes : List ℕ) → map form.pixel_of bytes ≡ pixels_of_bytes form (length bytes) bytes
  pixels_of_each bytes = rw byte (groups_of_bytes form bytes)

  -- The pixels of values are the pixels that have them.
  pub values_come_back : ((p : T) → form.pixel_of (form.value p) ≡ p) → (xs : List T)
      → shown_pixels form 0 (length xs) (map form.value xs) ≡ xs
  values_come_back same xs = rw byte (groups_come_back form same xs)

  -- The pixels from one index on are those of the bytes from there on.
  pub shown_piece : (unused at n count : ℕ) (bytes : List ℕ) → at + n ≤ count
      → take n (drop at (shown_pixels form unused count bytes)) ≡ shown_pixels form unused n (take n (drop at bytes))
  shown_piece unused at n count bytes room =
      let left = count - (at + n) in
      let all : count ≡ at + (n + left) = omega (arith, room) in
      let from : form.size * at ≡ at = rw byte (omega arith) in
      let past : form.size * n ≤ n = rw byte (omega arith) in
      rw (
        all,
        shown-append form unused at (n + left) bytes,
        shown-append form unused n left (drop (form.size * at) bytes),
        drop_at (shown_pixels form unused at bytes) _ at (length-shown form unused at bytes),
        take_at (shown_pixels form unused n (drop (form.size * at) bytes)) _ n
            (length-shown form unused n (drop (form.size * at) bytes)),
        from,
      ) (sym (shown-take form unused n n (drop at bytes) past))

-- Pairs of the first bytes that encode pixels of one byte, and the pixels of the other bytes.
pub parts_shown : {T : Type 0} (form : PixelForm T) (unused whole rest : ℕ) (bytes : List ℕ)
    → (0 < whole → (unused ≡ 0) × (form.size ≡ 1))
    → shown_pixels form 0 (2 * whole) (take (2 * whole) bytes) ++ shown_pixels form unused (2 * rest) (drop (2 * whole) bytes)
    ≡ shown_pixels form unused (2 * whole + 2 * rest) bytes
parts_shown form unused zero rest bytes facts = let e : 2 * 0 + 2 * rest ≡ 2 * rest = omega arith in rw e refl
parts_shown form unused (suc n) rest bytes facts =
    let known = facts (omega arith) in
    let at : 2 * suc n ≡ form.size * (2 * suc n) = rw (known.1) (omega arith) in
    rw (known.0) (shown-parts form 0 (2 * suc n) (2 * rest) (2 * suc n) bytes at)
