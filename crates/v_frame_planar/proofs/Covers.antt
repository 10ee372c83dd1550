-- Chroma that covers luma: it can be laid out if luma can, and it is the chroma of the frame
-- builder if the sizes are divisible.
use Rattle.std.proofs.Common.{ℕ, ◌≡◌, ◌/◌, ◌<◌, ◌≤◌, true, ◌==◌, Option, Some, None}
use Rattle.std.proofs.Common.{Ok, option_map, is_ok, SomeIff, refl, arith}
use Rattle.std.specs.Int.{div_ceil}
use Rattle.std.proofs.Math.Nat.{div-le_self, div-one, mul-le-mul_left, mul-le-mul_right}
use Rattle.std.proofs.lemmas.Nat.{div-add-mod'}
use Rattle.std.proofs.lemmas.Bool.{and_parts, eqb-true}
use Rattle.v_frame.specs.Prelude.{Geometry, stride_of, alloc_height_of, Fits, IsGeometry}
use Rattle.v_frame_raster.specs.Chroma.{has_quotient, is_divisible, divided_geometry, subsampled_by}
use Rattle.v_frame.specs.Build.{FrameRequest, luma_geometry}
use Rattle.v_frame_raster.proofs.ChromaLemmas.{by_ratio}
use Rattle.v_frame_planar.specs.Video.{covering_geometry}

-- A quotient that is rounded up is 0 only for 0.
pub ceil_positive : (n ratio : ℕ) → 0 < n → 0 < div_ceil n ratio
ceil_positive n ratio h = grind (arith, div-add-mod' n ratio)

-- A quotient that is rounded up is at most the number.
ceil_le : (n ratio : ℕ) → 0 < ratio → div_ceil n ratio ≤ n
ceil_le n ratio h = omega (arith, mul-le-mul_left (n / ratio) h, div-add-mod' n ratio)

module _ (g : Geometry) (x y : ℕ) (some_x : 0 < x) (some_y : 0 < y) where
  stride_of_cover : stride_of (covering_geometry g (x, y)) ≤ stride_of g
  stride_of_cover = omega (arith, ceil_le g.width x some_x, div-le_self g.pad_left x, div-le_self g.pad_right x)

  pub cover_fits : Fits g → Fits (covering_geometry g (x, y))
  cover_fits fits =
      let c = covering_geometry g (x, y) in
      let rows : alloc_height_of c ≤ alloc_height_of g = omega
      (arith, ceil_le g.height y some_y, div-le_self g.pad_top y, div-le_self g.pad_bottom y) in
      omega (arith, fits, mul-le-mul_left (alloc_height_of c) stride_of_cover, mul-le-mul_right (stride_of g) rows)

  pub cover_is_geometry : IsGeometry g → IsGeometry (covering_geometry g (x, y))
  cover_is_geometry is = record {
    wide = ceil_positive g.width x is.wide;
    high = ceil_positive g.height y is.high;
    sampled_x = some_x;
    sampled_y = some_y;
    stride_fits = omega (arith, stride_of_cover, is.stride_fits);
  }

-- If a geometry can be laid out, it is the one that was returned.
pub laid_out : (made : Option Geometry) (given g : Geometry) → SomeIff made (IsGeometry given) given → given ≡ g →
    IsGeometry g → made ≡ Some g
laid_out None given g none same is = absurd (none (rw same is))
laid_out (Some x) given g both same is = cc

-- An exact quotient equals the quotient that is rounded up.
exact_ceil : (n ratio : ℕ) → has_quotient n ratio ≡ true → div_ceil n ratio ≡ n / ratio
exact_ceil n ratio e = omega (arith, eqb-true _ n e, div-add-mod' n ratio)

-- If the sizes are divisible, the covering geometry is the divided one.
divided_covers : (x y : ℕ) (g : Geometry) → is_divisible x y g ≡ true → covering_geometry g (x, y) ≡ divided_geometry x
    y g
divided_covers x y g e =
    let sides : (has_quotient g.width x ≡ true) × (has_quotient g.height y ≡ true) = grind arith in
    rw (exact_ceil g.width x sides.0, exact_ceil g.height y sides.1)

module _ (request : FrameRequest) where
  abbrev luma : Geometry
  luma = luma_geometry request

  -- Chroma of the same size as luma has the geometry of luma.
  whole_covers : covering_geometry luma (1, 1) ≡ luma
  whole_covers =
      let width : div_ceil luma.width 1 ≡ luma.width = omega arith in
      let height : div_ceil luma.height 1 ≡ luma.height = omega arith in
      rw (width, height) (simp div-one)

  -- If the frame builder accepts the ratio, its chroma has the covering geometry.
  pub subsampled_covers : (ratio : Option (ℕ × ℕ)) → is_ok (subsampled_by ratio luma) ≡ true
      → subsampled_by ratio luma ≡ Ok (option_map (covering_geometry luma) ratio)
  subsampled_covers None = λ ok. refl
  subsampled_covers (Some (x, y)) =
      by_ratio x y luma (λ made. is_ok made ≡ true → made ≡ Ok (Some (covering_geometry luma (x, y))))
      (λ full ok. let ones = and_parts (x == 1) (y == 1) full in rw
      (eqb-true x 1 ones.0, eqb-true y 1 ones.1, whole_covers))
      (λ is ok. rw (divided_covers x y luma is)) (λ ok. cc)
