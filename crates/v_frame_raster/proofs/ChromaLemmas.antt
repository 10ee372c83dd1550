-- Geometries of chroma planes: they are not larger than that of luma, and their size is that of the chroma planes.
use Rattle.std.proofs.Common.{ℕ, ◌≡◌, ◌≤◌, true, Option, Some, None, Result, Ok, Err, refl, arith, eqb-true, ◌==◌}
use Rattle.std.proofs.lemmas.Bool.Decides.{nat_tests}
use Rattle.std.proofs.Math.Nat.{div-le_self, mul-le-mul_left, mul-le-mul_right}
use Rattle.v_frame_raster.specs.Geometry.{Geometry, stride_of, alloc_height_of, alloc_size_of, Fits}
use Rattle.v_frame_raster.specs.Chroma.{ratio_of, has_quotient, size_by, chroma_size_of, is_divisible, divided_geometry}
use Rattle.v_frame_raster.specs.Chroma.{subsampled_by, is_full, subsampled, geometry_in}
use Rattle.v_frame_raster.specs.Laws.{HasChromaSize}
use Rattle.std.specs.Result.{result_ok}
use Rattle.v_frame_raster.specs.declared.geometry.SubsamplingError.{SubsamplingError}
use Rattle.v_frame_raster.specs.declared.chroma.ChromaSubsampling.{ChromaSubsampling}
use Rattle.std.proofs.lemmas.Bool.{cond_both}
pub use Rattle.std.proofs.lemmas.Bool.{and_parts as both_true}

-- The chroma geometry has the size of the chroma planes, and is not larger than that of luma.
abbrev Sized : Option (ℕ × ℕ) → Geometry → Geometry → Type 0
Sized ratio g c =
    (size_by ratio g.width g.height ≡ Some (c.width, c.height))
    × (c.width ≤ g.width) × (c.height ≤ g.height) × (alloc_size_of c ≤ alloc_size_of g)

module _ (x y : ℕ) (g : Geometry) where
  full_size : is_full (x, y) ≡ true → Sized (Some (x, y)) g g
  full_size e =
      let ones = both_true (x == 1) (y == 1) e in
      rw (eqb-true x 1 ones.0, eqb-true y 1 ones.1) (grind (arith, nat_tests), omega arith, omega arith, omega arith)

  divided_size : is_divisible x y g ≡ true → Sized (Some (x, y)) g (divided_geometry x y g)
  divided_size e =
      let c = divided_geometry x y g in
      let sides : (has_quotient g.width x ≡ true) × (has_quotient g.height y ≡ true) = grind arith in
      let wide : stride_of c ≤ stride_of g = omega (
        arith,
        div-le_self g.width x,
        div-le_self g.pad_left x,
        div-le_self g.pad_right x,
      ) in
      let high : alloc_height_of c ≤ alloc_height_of g = omega (
        arith,
        div-le_self g.height y,
        div-le_self g.pad_top y,
        div-le_self g.pad_bottom y,
      ) in
      let less : alloc_size_of c ≤ alloc_size_of g = omega (
        arith,
        mul-le-mul_left (alloc_height_of c) wide,
        mul-le-mul_right (stride_of g) high,
      ) in
      (rw (sides.0, sides.1), div-le_self g.width x, div-le_self g.height y, less)

  -- A property of each outcome of the tests of the ratio is a property of the result.
  pub by_ratio : (P : Result (Option Geometry) SubsamplingError → Type 0) → (is_full (x, y) ≡ true → P (Ok (Some g)))
      → (is_divisible x y g ≡ true → P (Ok (Some (divided_geometry x y g)))) → P (Err (record {}))
      → P (subsampled_by (Some (x, y)) g)
  by_ratio P full parts none =
      cond_both (is_full (x, y)) _ _ P full (λ _. cond_both (is_divisible x y g) _ _ P parts (λ _. none))

has_size : (ratio : Option (ℕ × ℕ)) (g c : Geometry) → subsampled_by ratio g ≡ Ok (Some c) → Sized ratio g c
has_size None g c = λ e. cc
has_size (Some (x, y)) g c =
    by_ratio x y g (λ made. made ≡ Ok (Some c) → Sized (Some (x, y)) g c)
    (λ full e. let same : c ≡ g = cc in rw same (full_size x y g full))
    (λ is e. let same : c ≡ divided_geometry x y g = cc in rw same (divided_size x y g is)) (λ e. cc)

given_by : (r : Result (Option Geometry) SubsamplingError) (c : Geometry) → geometry_in r ≡ Some c → r ≡ Ok (Some c)
given_by (Ok o) c e = cc
given_by (Err x) c e = cc

-- If luma fits, chroma fits.
pub chroma_fits : (s : ChromaSubsampling) (g c : Geometry) → geometry_in (subsampled s g) ≡ Some c → Fits g → Fits c
chroma_fits s g c e fits = omega (arith, (has_size (ratio_of s) g c (given_by (subsampled s g) c e)).3)

-- The result of the conversion to an option.
pub geometry_of_ok : (r : Result (Option Geometry) SubsamplingError) (c : Option Geometry) → result_ok r ≡ Some c
    → geometry_in r ≡ c
geometry_of_ok (Ok o) c e = cc
geometry_of_ok (Err x) c e = cc

pub chroma_size : (s : ChromaSubsampling) (g c : Geometry) → subsampled s g ≡ Ok (Some c)
    → chroma_size_of s g.width g.height ≡ Some (c.width, c.height)
chroma_size s g c e = (has_size (ratio_of s) g c e).0

pub has_chroma_size : (s : ChromaSubsampling) (luma chroma : Geometry) → subsampled s luma ≡ Ok (Some chroma)
    → HasChromaSize s luma chroma
has_chroma_size s luma chroma e =
    let is = has_size (ratio_of s) luma chroma e in
    record { size = is.0; no_wider = is.1; no_higher = is.2; no_larger = is.3 }

-- Without chroma there is no size.
no_size_by : (ratio : Option (ℕ × ℕ)) (g : Geometry) → subsampled_by ratio g ≡ Ok None
    → size_by ratio g.width g.height ≡ None
no_size_by None g e = refl
no_size_by (Some r) g e = absurd (grind arith)

pub no_chroma_size : (s : ChromaSubsampling) (g : Geometry) → subsampled s g ≡ Ok None
    → chroma_size_of s g.width g.height ≡ None
no_chroma_size s = no_size_by (ratio_of s)
