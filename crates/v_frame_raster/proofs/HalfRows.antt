-- Rows at half the size, in pieces.
use Rattle.std.proofs.Common.{ℕ, zero, suc, ◌≡◌, ◌+◌, ◌-◌, ◌*◌, ◌<◌, ◌≤◌, List, [], ◌∷◌, ◌++◌, length, take, drop}
use Rattle.std.proofs.Common.{get_or, set, refl, ◌∙◌, ap, arith}
use Rattle.std.specs.Simd.Lanes.{put_chunk}
use Rattle.std.proofs.Math.Nat.{mul-suc}
use Rattle.std.proofs.Math.Seq.{take-add}
use Rattle.std.proofs.lemmas.List.{drop_more, take_more_set, length-take-le, length-drop, take_rest}
use Rattle.std.proofs.lemmas.Simd.{take_more_put_chunk}
use Rattle.v_frame_raster.specs.Pixel.{PixelForm}
use Rattle.v_frame_raster.specs.PixelRows.{halved, rounded_mean}

module _ {T : Type 0} (form : PixelForm T) where
  -- The halves of joined rows, of which the first two have the same even length.
  pub halved-append : (n : ℕ) (top bottom top1 bottom1 : List T) → length top ≡ 2 * n → length bottom ≡ 2 * n
      → halved form (top ++ top1) (bottom ++ bottom1) ≡ halved form top bottom ++ halved form top1 bottom1
  halved-append zero [] [] top1 bottom1 long long1 = refl
  halved-append (suc n) (a ∷ b ∷ top) (c ∷ d ∷ bottom) top1 bottom1 long long1 =
      rw (halved-append n top bottom top1 bottom1 (omega (arith, long)) (omega (arith, long1)))
  halved-append n top bottom top1 bottom1 long long1 = absurd (omega (arith, long, long1))

  pub length-halved : (n : ℕ) (top bottom : List T) → length top ≡ 2 * n → length bottom ≡ 2 * n
      → length (halved form top bottom) ≡ n
  length-halved zero [] bottom long long1 = refl
  length-halved (suc n) (a ∷ b ∷ top) (c ∷ d ∷ bottom) long long1 =
      ap suc (length-halved n top bottom (omega (arith, long)) (omega (arith, long1)))
  length-halved n top bottom long long1 = absurd (omega (arith, long, long1))

  -- The halves of the fronts of two rows are some pixels, followed by the halves of the rest.
  halved-fronts : (n more : ℕ) (top bottom : List T) → 2 * (n + more) ≤ length top → 2 * (n + more) ≤ length bottom
      → halved form (take (2 * (n + more)) top) (take (2 * (n + more)) bottom)
      ≡ halved form (take (2 * n) top) (take (2 * n) bottom) ++ halved form (take (2 * more) (drop (2 * n) top))
      (take (2 * more) (drop (2 * n) bottom))
  halved-fronts n more top bottom long long1 =
      let both : 2 * (n + more) ≡ 2 * n + 2 * more = omega arith in
      rw (both, take-add (2 * n) (2 * more) top, take-add (2 * n) (2 * more) bottom)
      (halved-append n (take (2 * n) top) (take (2 * n) bottom) _ _ (length-take-le (2 * n) top (omega (arith, long)))
      (length-take-le (2 * n) bottom (omega (arith, long1))))

  -- The first pixels are the halves of the fronts of the rows.
  abbrev pub HalvedUpTo : ℕ → List T → List T → List T → Type 0
  HalvedUpTo at pixels top bottom = take at pixels ≡ halved form (take (2 * at) top) (take (2 * at) bottom)

  -- One step of a loop that writes a block of n lanes at a time.
  pub halved-block_more : (n block from : ℕ) (pixels top bottom lanes : List T)
      → let at : ℕ = n * block in from ≡ 2 * at → at + n ≤ length pixels
      → length top ≡ 2 * length pixels → length bottom ≡ 2 * length pixels
      → lanes ≡ halved form (take (2 * n) (take (length top - from) (drop from top)))
      (take (2 * n) (take (length bottom - from) (drop from bottom)))
      → HalvedUpTo at pixels top bottom → HalvedUpTo (n * (block + 1)) (put_chunk at pixels lanes) top bottom
  halved-block_more n block from pixels top bottom lanes double room long long1 is so_far =
      let at = n * block in
      let on : n * (block + 1) ≡ at + n = omega (arith, mul-suc n block) in
      let here = rw (take_rest top from, take_rest bottom from, double) at is in
      let first = length-take-le (2 * n) (drop (2 * at) top) (omega (arith, room, long, length-drop (2 * at) top)) in
      let second = length-take-le (2 * n) (drop (2 * at) bottom)
      (omega (arith, room, long1, length-drop (2 * at) bottom)) in
      let count : length lanes ≡ n = ap length here ∙ length-halved n _ _ first second in
      let more = halved-fronts at n top bottom (omega (arith, room, long)) (omega (arith, room, long1)) in
      rw (on, take_more_put_chunk at pixels lanes (at + n) (omega (arith, count)) room, so_far, here, more)

  -- One step of a loop that writes one pixel at a time.
  pub halved-one_more : (i : ℕ) (pixels top bottom : List T) (pixel d : T) → i < length pixels
      → length top ≡ 2 * length pixels → length bottom ≡ 2 * length pixels
      → let at : List T → ℕ → ℕ = λ row k. form.value (get_or row k d) in
      pixel ≡ form.pixel_of (rounded_mean (at top (2 * i)) (at top (2 * i + 1)) (at bottom (2 * i))
      (at bottom (2 * i + 1)))
      → HalvedUpTo i pixels top bottom → HalvedUpTo (i + 1) (set pixels i pixel) top bottom
  halved-one_more i pixels top bottom pixel d room long long1 is so_far =
      let pair : (row : List T) → length row ≡ 2 * length pixels
      → drop (2 * i) row ≡ get_or row (2 * i) d ∷ get_or row (2 * i + 1) d ∷ drop (2 * i + 1 + 1) row =
      λ row long. rw (
        drop_more row (2 * i) d (omega (arith, room, long)),
        drop_more row (2 * i + 1) d (omega (arith, room, long)),
      ) in
      let more = halved-fronts i 1 top bottom (omega (arith, room, long)) (omega (arith, room, long1)) in
      rw (take_more_set pixels i pixel room, so_far, is, more, pair top long, pair bottom long1)
