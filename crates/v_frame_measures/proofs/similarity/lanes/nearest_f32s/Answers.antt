use Rattle.std.proofs.Common.{◌/◌, ◌<◌, ◌^◌, map, pos, ℕ, replicate, ap, ◌∙◌, lit≤, bit_and, w32}
use Rattle.std.specs.Float.Ieee.{binary32, of_int, add, mul, of_bits}
use Rattle.std.proofs.lemmas.Simd.{Each1-zip2, Each2-splat, Each1-weaker, zip2_splat, zip2_of_maps, splat_is_map, below_from_Fits, map-map}
use Rattle.v_frame_measures.proofs.Mapped.{map_same}
use Rattle.core.proofs.num.Nearest.{halves_masked, upper_in, lower_in, two_to_16}
use Rattle.v_frame_measures.proofs.similarity.lanes.nearest_f32s.Goals as goal

pub int_to_float-high : goal.int_to_float-high
int_to_float-high c =
    let ns = c.args.numbers in
    Each1-zip2 _ _ ns (replicate 8 16) (Each2-splat _ ns 8 16 (Each1-weaker (λ n. n < 2 ^ 32) _ (λ n h. upper_in binary32 16 n (lit≤ tt) h) ns (below_from_Fits w32 ns c.fits-numbers.1)))

pub int_to_float-result : goal.int_to_float-result
int_to_float-result c =
    let ns = c.args.numbers in
    Each1-zip2 _ _ ns (replicate 8 65535) (Each2-splat _ ns 8 65535 (Each1-weaker (λ n. n < 2 ^ 32) _ (λ n h. lower_in binary32 16 n (lit≤ tt)) ns (below_from_Fits w32 ns c.fits-numbers.1)))

pub returns : goal.returns
returns c =
    let ns = c.args.numbers in let long = c.fits-numbers.0 in
    let high = ap (map (λ n. of_int binary32 (pos n))) (zip2_splat {Y = ℕ} (λ n k. n / 2 ^ k) ns 8 16 long) ∙ map-map _ _ ns in
    let low = ap (map (λ n. of_int binary32 (pos n))) (zip2_splat bit_and ns 8 65535 long) ∙ map-map _ _ ns in
    let scale = splat_is_map ns 8 (of_bits binary32 1199570944) long in
    zip2_of_maps (add binary32) _ _ ns (zip2_of_maps (mul binary32) _ _ ns high scale) low
    ∙ map_same _ _ _ ns (λ n h. halves_masked binary32 16 n _ two_to_16 (lit≤ tt) (lit≤ tt) h) (below_from_Fits w32 ns c.fits-numbers.1)
