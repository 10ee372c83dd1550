use Rattle.std.proofs.Common.{◌≡◌, length, map, ℕ, replicate, ap, sym, ◌∙◌, bit_and}
use Rattle.std.specs.Float.Ieee.{binary32, mul, div}
use Rattle.std.proofs.lemmas.Simd.{zip2_of_maps, splat_is_map, map-map}
use Rattle.std.proofs.lemmas.List.{length-map}
use Rattle.v_frame_measures.specs.declared.similarity.sums.PixelSums.{PixelSums}
use Rattle.v_frame_measures.proofs.Mapped.{map_same}
use Rattle.v_frame_measures.proofs.SignedLanes.{single, signed}
use Rattle.v_frame_measures.proofs.ByteLanes.{plus, times, shifted, lane_is}
use Rattle.v_frame_measures.proofs.similarity.lanes.similarities_of_bytes.Goals as goal

pub returns : goal.returns
returns c ws few f s q p =
    let long : length ws ≡ 8 = sym (length-map ws (λ (w : PixelSums). w.first)) ∙ ap length (sym f) ∙ c.fits-first.0 in
    let splat : (n : ℕ) → replicate 8 n ≡ map (λ _. n) ws = λ n. splat_is_map ws 8 n long in
    let a = zip2_of_maps bit_and _ _ ws f (splat 32767) in
    let b = zip2_of_maps bit_and _ _ ws s (splat 32767) in
    let product = zip2_of_maps shifted _ _ ws (zip2_of_maps times _ _ ws a b) (splat 1) in
    let both = zip2_of_maps plus _ _ ws (zip2_of_maps times _ _ ws a a) (zip2_of_maps times _ _ ws b b) in
    let of_means = splat c.args.constants.now.means in
    let of_variances = splat c.args.constants.now.variances in
    let means = c.nearest_f32s-means.ensures ∙ ap (map single) (zip2_of_maps plus _ _ ws product of_means) ∙ map-map _ _ ws in
    let mean_squares = c.nearest_f32s-mean_squares.ensures ∙ ap (map single) (zip2_of_maps plus _ _ ws both of_means) ∙ map-map _ _ ws in
    let covariance = c.nearest_f32s_to_differences-covariance.ensures
    ∙ zip2_of_maps signed _ _ ws (zip2_of_maps plus _ _ ws (zip2_of_maps shifted _ _ ws p (splat 7)) of_variances) product in
    let variances = c.nearest_f32s_to_differences-variances.ensures
    ∙ zip2_of_maps signed _ _ ws (zip2_of_maps plus _ _ ws (zip2_of_maps shifted _ _ ws q (splat 6)) of_variances) both in
    zip2_of_maps (div binary32) _ _ ws (zip2_of_maps (mul binary32) _ _ ws means covariance)
    (zip2_of_maps (mul binary32) _ _ ws mean_squares variances)
    ∙ map_same _ _ _ ws (lane_is c.args.constants.now c.requires.means c.requires.variances) few
