-- The pixels that bytes encode, one by one, and interleaved pixels that are stored in several runs.
use Rattle.std.proofs.Common.{ℕ, zero, suc, ◌≡◌, ◌+◌, ◌*◌, ◌/◌, ◌^◌, ◌<◌, List, [], ◌∷◌, ◌++◌, length, take, drop, Some}
use Rattle.std.proofs.Common.{◌-◌, ◌≤◌, None, slice_get, refl, sym, ◌∙◌, ap, arith, length-append, length-take-le}
use Rattle.std.proofs.Common.{length-take}
use Rattle.std.proofs.Common.{append_assoc, append-nil, map}
use Rattle.std.proofs.lemmas.Slice.{take-put_mid}
use borrow.Rule.Slice.PartMut.{put_mid}
use Rattle.std.proofs.lemmas.List.{length-map, drop-drop}
use Rattle.std.proofs.Math.Nat.{mul-le-mul_left}
use Rattle.std.proofs.lemmas.Grind.{flat_map-append}
use Rattle.v_frame.specs.Prelude.{PixelForm, Table, bytes_of, bytes_of_pixels, value_of_bytes, row_major, cut_rows}
use Rattle.v_frame_raster.proofs.PixelBytes.{length-bytes_from}
use Rattle.v_frame_raster.proofs.tables.CutRows.{length-cut_rows, slice_get-cut_rows}
use Rattle.v_frame_raster.proofs.tables.Lists.{same_by_slice_get, slice_get-map}
use Rattle.v_frame_raster.proofs.tables.Regions.{taken_inside}
use Rattle.v_frame_semi_planar.specs.Interleaved.{interleaved}
use Rattle.v_frame_semi_planar.specs.SemiPlanar.{shown_pixels, stored_bytes}

module _ {X : Type 0} where
  no_second : (us : List X) → interleaved us [] ≡ []
  no_second [] = refl
  no_second (u ∷ us) = refl

  -- Two interleaved lists, divided at one position.
  pub interleaved-cut : (n : ℕ) (us vs : List X) → interleaved us vs ≡ interleaved (take n us) (take n vs) ++
      interleaved (drop n us) (drop n vs)
  interleaved-cut zero us vs = refl
  interleaved-cut (suc n) [] vs = refl
  interleaved-cut (suc n) (u ∷ us) [] = sym (no_second (drop n us))
  interleaved-cut (suc n) (u ∷ us) (v ∷ vs) = ap (λ rest. u ∷ v ∷ rest) (interleaved-cut n us vs)

  -- One more item of each list.
  pub interleaved-more : (i : ℕ) (us vs : List X) (u v : X) → slice_get us i ≡ Some u → slice_get vs i ≡ Some v
      → interleaved (take (i + 1) us) (take (i + 1) vs) ≡ interleaved (take i us) (take i vs) ++ u ∷ v ∷ []
  interleaved-more i [] vs u v is beside = absurd (let no : None ≡ Some u = is in cc)
  interleaved-more i (a ∷ us) [] u v is beside = absurd (let no : None ≡ Some v = beside in cc)
  interleaved-more zero (a ∷ us) (b ∷ vs) u v is beside =
      let first : Some a ≡ Some u = is in
      let second : Some b ≡ Some v = beside in
      cc
  interleaved-more (suc i) (a ∷ us) (b ∷ vs) u v is beside =
      let e : suc i + 1 ≡ suc (i + 1) = omega arith in
      rw e (ap (λ rest. a ∷ b ∷ rest) (interleaved-more i us vs u v is beside))

module _ {T : Type 0} (form : PixelForm T) (unused : ℕ) where
  pub stored-append : (xs ys : List T) → stored_bytes form unused (xs ++ ys) ≡ stored_bytes form unused xs ++
      stored_bytes form unused ys
  stored-append xs ys = flat_map-append (λ pixel. bytes_of form.size (form.value pixel * 2 ^ unused)) xs ys

  pub length-stored : (xs : List T) → length (stored_bytes form unused xs) ≡ form.size * length xs
  length-stored [] = omega arith
  length-stored (x ∷ xs) =
      simp (length-append, length-bytes_from) (omega (arith, length-stored xs))

  pub length-bytes : (xs : List T) → length (bytes_of_pixels form xs) ≡ form.size * length xs
  length-bytes [] = omega arith
  length-bytes (x ∷ xs) = simp (length-append, length-bytes_from) (omega (arith, length-bytes xs))

  -- The number of bytes is that of two lists of pixels.
  pub length-parts : (bytes : List ℕ) (xs ys : List T) → length bytes ≡ length (stored_bytes form unused (xs ++ ys))
      → length bytes ≡ form.size * length xs + form.size * length ys
  length-parts bytes xs ys long =
      long ∙ length-stored (xs ++ ys) ∙ ap (λ n. form.size * n) (length-append xs ys) ∙ omega arith

  pub length-shown : (count : ℕ) (bytes : List ℕ) → length (shown_pixels form unused count bytes) ≡ count
  length-shown count bytes =
      length-map (cut_rows form.size count bytes) (λ group. form.pixel_of (value_of_bytes group / 2 ^ unused))
      ∙ length-cut_rows form.size count bytes

  -- The pixel with an index.
  pub shown_at : (count : ℕ) (bytes : List ℕ) (k : ℕ) → k < count → slice_get (shown_pixels form unused count bytes) k
      ≡ Some (form.pixel_of (value_of_bytes (take form.size (drop (form.size * k) bytes)) / 2 ^ unused))
  shown_at count bytes k h =
      slice_get-map (λ group. form.pixel_of (value_of_bytes group / 2 ^ unused)) (cut_rows form.size count bytes) k _
      (slice_get-cut_rows form.size count bytes k h)

  pub decoded_at : (count : ℕ) (bytes : List ℕ) (k size start : ℕ) (r : T) → k < count → size ≡ form.size
      → start ≡ size * k
      → r ≡ form.pixel_of (value_of_bytes (take (start + size - start) (drop start bytes)) / 2 ^ unused)
      → slice_get (shown_pixels form unused count bytes) k ≡ Some r
  decoded_at count bytes k size start r h same at is =
      let long : start + size - start ≡ form.size = omega (arith, same) in
      let from : start ≡ form.size * k = at ∙ ap (λ n. n * k) same in
      shown_at count bytes k h ∙ sym (ap Some (is ∙ rw (long, from) refl))

  -- One more pixel of each row is encoded after those before.
  pub one_pair_more : (i : ℕ) (us vs : List T) (u v : T) (bytes part other : List ℕ) (start size next : ℕ)
      → take start bytes ≡ stored_bytes form unused (interleaved (take i us) (take i vs)) → start ≤ length bytes
      → slice_get us i ≡ Some u → slice_get vs i ≡ Some v
      → part ≡ bytes_of form.size (form.value u * 2 ^ unused) → length part ≡ size
      → other ≡ bytes_of form.size (form.value v * 2 ^ unused) → length other ≡ size → next ≡ start + size + size
      → take next (put_mid (start + size) (start + size + size - (start + size)) (put_mid start (start + size - start) bytes
      part) other)
      ≡ stored_bytes form unused (interleaved (take (i + 1) us) (take (i + 1) vs))
  one_pair_more i us vs u v bytes part other start size next before within is beside made long made_other long_other end =
      let first = put_mid start (start + size - start) bytes part in
      let front : take (start + size) first ≡ take start bytes ++ part =
      take-put_mid start (start + size - start) bytes part (start + size) (omega (arith, long)) within in
      let room : start + size ≤ length first = omega (
        arith,
        ap length front,
        length-append (take start bytes) part,
        length-take-le start bytes within,
        length-take (start + size) first,
        long,
      ) in
      take-put_mid (start + size) (start + size + size - (start + size)) first other next (omega (arith, long_other, end))
      room
      ∙ rw (front, before, interleaved-more i us vs u v is beside, stored-append) (rw (made, made_other)
      (simp (append_assoc, append-nil)))

-- Bytes that are decoded part by part: each row of pixels comes from one part of the bytes.
module _ {T : Type 0} (form : PixelForm T) (unused : ℕ) where
  pub shown-append : (a b : ℕ) (bytes : List ℕ) → shown_pixels form unused (a + b) bytes
      ≡ shown_pixels form unused a bytes ++ shown_pixels form unused b (drop (form.size * a) bytes)
  shown-append zero b bytes =
      let none : form.size * 0 ≡ 0 = omega arith in
      let all : 0 + b ≡ b = omega arith in
      rw (none, all) refl
  shown-append (suc a) b bytes =
      let more : suc a + b ≡ suc (a + b) = omega arith in
      let past : form.size * suc a ≡ form.size + form.size * a = omega arith in
      rw (more, shown-append a b (drop form.size bytes), drop-drop (form.size * a) form.size bytes, past) refl

  pub shown-take : (count n : ℕ) (bytes : List ℕ) → form.size * count ≤ n
      → shown_pixels form unused count (take n bytes) ≡ shown_pixels form unused count bytes
  shown-take count n bytes fits =
      let part = shown_pixels form unused count (take n bytes) in
      let long = length-shown form unused count (take n bytes) in
      same_by_slice_get part (shown_pixels form unused count bytes)
      (long ∙ sym (length-shown form unused count bytes)) (λ k h.
      let low : k < count = omega (arith, long) in
      let inside : form.size * k + form.size ≤ n = omega (arith, mul-le-mul_left form.size low, fits) in
      shown_at form unused count (take n bytes) k low
      ∙ ap (λ group. Some (form.pixel_of (value_of_bytes group / 2 ^ unused)))
      (taken_inside bytes (form.size * k) form.size n inside)
      ∙ sym (shown_at form unused count bytes k low))

  -- The rows of pixels, each from its part of the bytes.
  abbrev pub stored_rows : ℕ → ℕ → ℕ → List ℕ → Table T
  stored_rows count piece height bytes = map (shown_pixels form unused count) (cut_rows piece height bytes)

  pub length-stored_rows : (count piece height : ℕ) (bytes : List ℕ) → length (stored_rows count piece height bytes) ≡
      height
  length-stored_rows count piece height bytes =
      length-map (cut_rows piece height bytes) (shown_pixels form unused count) ∙ length-cut_rows piece height bytes

  pub stored_row : (count piece height : ℕ) (bytes : List ℕ) (y : ℕ) → y < height
      → slice_get (stored_rows count piece height bytes) y
      ≡ Some (shown_pixels form unused count (take piece (drop (piece * y) bytes)))
  stored_row count piece height bytes y h =
      slice_get-map (shown_pixels form unused count) (cut_rows piece height bytes) y _
      (slice_get-cut_rows piece height bytes y h)

  -- Together they are the pixels of all bytes.
  pub row_major-stored_rows : (count piece height : ℕ) (bytes : List ℕ) → piece ≡ form.size * count
      → row_major (stored_rows count piece height bytes) ≡ shown_pixels form unused (height * count) bytes
  row_major-stored_rows count piece zero bytes is = let none : 0 * count ≡ 0 = omega arith in rw none refl
  row_major-stored_rows count piece (suc height) bytes is =
      let more : suc height * count ≡ count + height * count = omega arith in
      rw (more, shown-append count (height * count) bytes, shown-take count piece bytes (omega (arith, is)), ← is)
      (ap (λ rest. shown_pixels form unused count bytes ++ rest)
      (row_major-stored_rows count piece height (drop piece bytes) is))

  -- The pixels of two parts of the bytes are the pixels of both together.
  pub shown-parts : (a b at : ℕ) (bytes : List ℕ) → at ≡ form.size * a
      → shown_pixels form unused a (take at bytes) ++ shown_pixels form unused b (drop at bytes)
      ≡ shown_pixels form unused (a + b) bytes
  shown-parts a b at bytes is =
      rw (shown-append a b bytes, shown-take a at bytes (omega (arith, is)), ← is) refl
