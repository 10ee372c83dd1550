-- The color with a chroma subsampling, a bit depth and a siting.
use Rattle.std.proofs.Common.{ℕ, ◌≡◌, ◌≢◌, refl, sym, ◌∙◌, ap, subst, rules, arith}
use Rattle.std.proofs.lemmas.Grind.{common_steps}
use Rattle.std.specs.Prelude.{Bool, true, false, ◌==◌, if◌then◌else◌, IfSome, Option, Some, None, unwrap_or}
use Rattle.v_frame.specs.Prelude.{ChromaSubsampling, Yuv420 as Half, Yuv422 as Wide, Yuv411 as Quarter, Yuv444 as Full}
use Rattle.v_frame.specs.Prelude.{Monochrome}
use Rattle.v_frame_y4m.specs.Color.{bits_of, color_with, depth_of, depth_of_bits, eight_bit_color, high_depth_color}
use Rattle.v_frame_y4m.specs.Color.{siting_of, subsampling_of}
use Rattle.v_frame_y4m.specs.declared.color.Depth.{Depth}
use Rattle.v_frame_y4m.specs.declared.color.Depth.TheVariants.{Nine, Ten, Twelve, Fourteen, Sixteen}
use Rattle.v_frame_y4m.specs.declared.color.ChromaSiting.{ChromaSiting}
use Rattle.v_frame_y4m.specs.declared.color.ChromaSiting.TheVariants.{Center, Left, Alternating}
use Rattle.v_frame_y4m.specs.declared.color.Color.{Color}
use Rattle.v_frame_y4m.specs.declared.color.Color.TheVariants.{Unstated, Yuv420, Yuv420Jpeg, Yuv420Mpeg2, Yuv420Paldv}
use Rattle.v_frame_y4m.specs.declared.color.Color.TheVariants.{Yuv411, Yuv422, Yuv444, Mono, Yuv420HighDepth}
use Rattle.v_frame_y4m.specs.declared.color.Color.TheVariants.{Yuv422HighDepth, Yuv444HighDepth, MonoHighDepth}

-- A color has this subsampling, this bit depth and this siting.
abbrev pub Has : ChromaSubsampling → ℕ → Option ChromaSiting → Color → Type 0
Has s bits siting c = (subsampling_of c ≡ s) × ((depth_of c ≡ bits) × (siting_of c ≡ siting))

some_is : {A : Type 0} (P : A → Type 0) (a c : A) → Some a ≡ Some c → P a → P c
some_is P a c same here = subst P (ap (λ o. unwrap_or o a) same) here

no_none : {A : Type 0} (a : A) → None ≡ Some a → ⊥
no_none a is = search rules

eight_has : (s : ChromaSubsampling) (siting : Option ChromaSiting) (c : Color)
    → eight_bit_color s siting ≡ Some c → Has s 8 siting c
eight_has Half (Some Center) c is = some_is (Has Half 8 (Some Center)) Yuv420Jpeg c is (refl, (refl, refl))
eight_has Half (Some Left) c is = some_is (Has Half 8 (Some Left)) Yuv420Mpeg2 c is (refl, (refl, refl))
eight_has Half (Some Alternating) c is = some_is (Has Half 8 (Some Alternating)) Yuv420Paldv c is (refl, (refl, refl))
eight_has Half None c is = absurd (no_none c is)
eight_has Wide None c is = some_is (Has Wide 8 None) Yuv422 c is (refl, (refl, refl))
eight_has Wide (Some siting) c is = absurd (no_none c is)
eight_has Quarter None c is = some_is (Has Quarter 8 None) Yuv411 c is (refl, (refl, refl))
eight_has Quarter (Some siting) c is = absurd (no_none c is)
eight_has Full None c is = some_is (Has Full 8 None) Yuv444 c is (refl, (refl, refl))
eight_has Full (Some siting) c is = absurd (no_none c is)
eight_has Monochrome None c is = some_is (Has Monochrome 8 None) Mono c is (refl, (refl, refl))
eight_has Monochrome (Some siting) c is = absurd (no_none c is)

bits_back : (bits : ℕ) (depth : Depth) → depth_of_bits bits ≡ Some depth → bits_of depth ≡ bits
bits_back bits depth is = grind (arith, common_steps)

deep_has : (s : ChromaSubsampling) (bits : ℕ) (depth : Depth) (siting : Option ChromaSiting) (c : Color)
    → bits_of depth ≡ bits → high_depth_color s (Some depth) siting ≡ Some c → Has s bits siting c
deep_has Half bits depth None c b is = some_is (Has Half bits None) (Yuv420HighDepth depth) c is (refl, (b, refl))
deep_has Wide bits depth None c b is = some_is (Has Wide bits None) (Yuv422HighDepth depth) c is (refl, (b, refl))
deep_has Full bits depth None c b is = some_is (Has Full bits None) (Yuv444HighDepth depth) c is (refl, (b, refl))
deep_has Monochrome bits depth None c b is =
    some_is (Has Monochrome bits None) (MonoHighDepth depth) c is (refl, (b, refl))
deep_has Quarter bits depth None c b is = absurd (no_none c is)
deep_has Half bits depth (Some siting) c b is = absurd (no_none c is)
deep_has Wide bits depth (Some siting) c b is = absurd (no_none c is)
deep_has Full bits depth (Some siting) c b is = absurd (no_none c is)
deep_has Monochrome bits depth (Some siting) c b is = absurd (no_none c is)
deep_has Quarter bits depth (Some siting) c b is = absurd (no_none c is)

-- The color that is found for the properties of a color.
abbrev usual : Color → Color
usual Unstated = Yuv420Jpeg
usual Yuv420 = Yuv420Jpeg
usual Yuv420Jpeg = Yuv420Jpeg
usual Yuv420Mpeg2 = Yuv420Mpeg2
usual Yuv420Paldv = Yuv420Paldv
usual Yuv411 = Yuv411
usual Yuv422 = Yuv422
usual Yuv444 = Yuv444
usual Mono = Mono
usual (Yuv420HighDepth depth) = Yuv420HighDepth depth
usual (Yuv422HighDepth depth) = Yuv422HighDepth depth
usual (Yuv444HighDepth depth) = Yuv444HighDepth depth
usual (MonoHighDepth depth) = MonoHighDepth depth

found_again : (c : Color) → color_with (subsampling_of c) (depth_of c) (siting_of c) ≡ Some (usual c)
found_again Unstated = refl
found_again Yuv420 = refl
found_again Yuv420Jpeg = refl
found_again Yuv420Mpeg2 = refl
found_again Yuv420Paldv = refl
found_again Yuv411 = refl
found_again Yuv422 = refl
found_again Yuv444 = refl
found_again Mono = refl
found_again (Yuv420HighDepth Nine) = refl
found_again (Yuv420HighDepth Ten) = refl
found_again (Yuv420HighDepth Twelve) = refl
found_again (Yuv420HighDepth Fourteen) = refl
found_again (Yuv420HighDepth Sixteen) = refl
found_again (Yuv422HighDepth Nine) = refl
found_again (Yuv422HighDepth Ten) = refl
found_again (Yuv422HighDepth Twelve) = refl
found_again (Yuv422HighDepth Fourteen) = refl
found_again (Yuv422HighDepth Sixteen) = refl
found_again (Yuv444HighDepth Nine) = refl
found_again (Yuv444HighDepth Ten) = refl
found_again (Yuv444HighDepth Twelve) = refl
found_again (Yuv444HighDepth Fourteen) = refl
found_again (Yuv444HighDepth Sixteen) = refl
found_again (MonoHighDepth Nine) = refl
found_again (MonoHighDepth Ten) = refl
found_again (MonoHighDepth Twelve) = refl
found_again (MonoHighDepth Fourteen) = refl
found_again (MonoHighDepth Sixteen) = refl

pub none_has : (s : ChromaSubsampling) (bits : ℕ) (siting : Option ChromaSiting) (c : Color)
    → color_with s bits siting ≡ None → subsampling_of c ≡ s → depth_of c ≡ bits → siting_of c ≢ siting
none_has s bits siting c none format depth sited =
    let at_format = subst (λ (x : ChromaSubsampling). color_with x bits siting ≡ None) (sym format) none in
    let at_depth = subst (λ (x : ℕ). color_with (subsampling_of c) x siting ≡ None) (sym depth) at_format in
    let at_siting = subst (λ (x : Option ChromaSiting). color_with (subsampling_of c) (depth_of c) x ≡ None)
    (sym sited) at_depth in
    no_none (usual c) (sym at_siting ∙ found_again c)

deep_found : (s : ChromaSubsampling) (bits : ℕ) (found : Option Depth) (siting : Option ChromaSiting) (c : Color)
    → depth_of_bits bits ≡ found → high_depth_color s found siting ≡ Some c → Has s bits siting c
deep_found s bits (Some depth) siting c of_bits is = deep_has s bits depth siting c (bits_back bits depth of_bits) is
deep_found s bits None siting c of_bits is = absurd (no_none c is)

found_by : (s : ChromaSubsampling) (bits : ℕ) (siting : Option ChromaSiting) (c : Color) (is_eight : Bool)
    → (bits == 8) ≡ is_eight
    → (if is_eight then eight_bit_color s siting else high_depth_color s (depth_of_bits bits) siting) ≡ Some c
    → Has s bits siting c
found_by s bits siting c true tested is =
    let eight : bits ≡ 8 = grind (arith, common_steps) in
    subst (λ (n : ℕ). Has s n siting c) (sym eight) (eight_has s siting c is)
found_by s bits siting c false tested is = deep_found s bits (depth_of_bits bits) siting c refl is

pub found_has : (s : ChromaSubsampling) (bits : ℕ) (siting : Option ChromaSiting) (c : Color)
    → color_with s bits siting ≡ Some c → Has s bits siting c
found_has s bits siting c is = found_by s bits siting c (bits == 8) refl is

pub found_if : (s : ChromaSubsampling) (bits : ℕ) (siting : Option ChromaSiting) (found : Option Color)
    → color_with s bits siting ≡ found → IfSome found (Has s bits siting)
found_if s bits siting (Some c) is = found_has s bits siting c is
found_if s bits siting None is = search rules
