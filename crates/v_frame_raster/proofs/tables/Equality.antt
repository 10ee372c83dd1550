-- The meaning of `==` for pixels, for buffers and for planes, if `==` on pixels compares their values.
use Rattle.std.proofs.Common.{ℕ, ◌≡◌, Bool, List, ◌&&◌, nat_eq as eqb, Option, Some, None, refl, ap}
use Rattle.v_frame_raster.specs.Geometry.{Geometry, stride_of}
use Rattle.v_frame_raster.specs.Raster.{Raster, raster}
use Rattle.std.specs.Option.{option_eq}
use Rattle.v_frame_raster.specs.declared.chroma.ChromaSubsampling.{ChromaSubsampling}
use Rattle.v_frame_raster.specs.contracts.chroma.ChromaSubsampling.{the_type}
use denote.Enum.Bare.{sameb, same_true, true_same}
use Rattle.std.specs.Bool.{Decides}
use Rattle.std.specs.Cmp.Lexicographic.{pointwise, pointwise_decides}
use Rattle.std.proofs.lemmas.Bool.Decides.{Decides-at, Decides-and, Decides-like, Decides-eqb}

module _ {T : Type 0} (value : T → ℕ) (one_value : (p q : T) → value p ≡ value q → p ≡ q) (eq : T → T → Bool)
    (by_value : (p q : T) → eq p q ≡ eqb (value p) (value q)) where
  pub pixels_decide : (p q : T) → Decides (eq p q) (p ≡ q)
  pixels_decide p q =
      let values = Decides-eqb (value p) (value q) in
      Decides-at (eq p q) (eqb (value p) (value q)) (by_value p q)
      (λ e. one_value p q (values.0 e), λ e. values.1 (ap value e))

  pub buffers_decide : (xs ys : List T) → Decides (pointwise eq xs ys) (xs ≡ ys)
  buffers_decide xs ys = pointwise_decides pixels_decide xs ys

module _ {X : Type 0} {E : X → X → Bool} (decide : (x y : X) → Decides (E x y) (x ≡ y)) where
  pub options_decide : (a b : Option X) → Decides (option_eq E a b) (a ≡ b)
  options_decide None None = (λ e. refl, λ e. refl)
  options_decide None (Some y) = (λ e. cc, λ e. cc)
  options_decide (Some x) None = (λ e. cc, λ e. cc)
  options_decide (Some x) (Some y) = Decides-like (E x y) (λ e. ap (λ z. Some z) e) (λ e. cc) (decide x y)

-- All numbers are compared. The stride is compared too, although the sizes and the paddings determine it.
abbrev pub same_numbers : Geometry → Geometry → Bool
same_numbers g h =
    eqb g.width h.width && (eqb g.height h.height && (eqb (stride_of g) (stride_of h) &&
    (eqb g.pad_left h.pad_left && (eqb g.pad_right h.pad_right && (eqb g.pad_top h.pad_top &&
    (eqb g.pad_bottom h.pad_bottom && (eqb g.subsampling_x h.subsampling_x && eqb g.subsampling_y h.subsampling_y)))))))

pub geometries_decide : (g h : Geometry) → Decides (same_numbers g h) (g ≡ h)
geometries_decide g h =
    let numbers = Decides-and _ _ (Decides-eqb g.width h.width) (Decides-and _ _ (Decides-eqb g.height h.height)
    (Decides-and _ _ (Decides-eqb (stride_of g) (stride_of h)) (Decides-and _ _ (Decides-eqb g.pad_left h.pad_left)
    (Decides-and _ _ (Decides-eqb g.pad_right h.pad_right) (Decides-and _ _ (Decides-eqb g.pad_top h.pad_top)
    (Decides-and _ _ (Decides-eqb g.pad_bottom h.pad_bottom)
    (Decides-and _ _ (Decides-eqb g.subsampling_x h.subsampling_x)
    (Decides-eqb g.subsampling_y h.subsampling_y)))))))) in
    Decides-like (same_numbers g h)
    (λ e i. record {
      width = e.0 i;
      height = e.1.0 i;
      pad_left = e.1.1.1.0 i;
      pad_right = e.1.1.1.1.0 i;
      pad_top = e.1.1.1.1.1.0 i;
      pad_bottom = e.1.1.1.1.1.1.0 i;
      subsampling_x = e.1.1.1.1.1.1.1.0 i;
      subsampling_y = e.1.1.1.1.1.1.1.1 i;
    })
    (λ e. rw e (refl, (refl, (refl, (refl, (refl, (refl, (refl, (refl, refl)))))))))
    numbers

abbrev pub same_plane : {T : Type 0} → (T → T → Bool) → Raster T → Raster T → Bool
same_plane eq p q = same_numbers p.geometry q.geometry && pointwise eq p.buffer q.buffer

pub planes_decide : {T : Type 0} (eq : T → T → Bool) → ((xs ys : List T) → Decides (pointwise eq xs ys) (xs ≡ ys))
    → (p q : Raster T) → Decides (same_plane eq p q) (p ≡ q)
planes_decide eq decide p q =
    Decides-like (same_plane eq p q)
    (λ e i. raster (e.0 i) (e.1 i))
    (λ e. rw e (refl, refl))
    (Decides-and (same_numbers p.geometry q.geometry) (pointwise eq p.buffer q.buffer)
    (geometries_decide p.geometry q.geometry) (decide p.buffer q.buffer))

pub formats_decide : (a b : ChromaSubsampling) → Decides (sameb the_type a b) (a ≡ b)
formats_decide a b = (same_true the_type _ a b, true_same the_type a b)
