-- Eight windows as a list, with one lane for each sum.
use Rattle.std.proofs.Common.{ℕ, map, sym, ◌∙◌, arith}
use Rattle.std.specs.List.{range_with_len}
use Rattle.std.proofs.lemmas.Simd.{map-map}
use Rattle.v_frame_measures.specs.BlockSums.{AreSumsOfBytes, window_of}
use Rattle.v_frame_measures.specs.Ssim.{similarity_of}
use Rattle.v_frame_measures.specs.declared.similarity.sums.PixelSums.{PixelSums}
use Rattle.v_frame_measures.proofs.Windows.{each_mapped}
use Rattle.v_frame_measures.proofs.similarity.blocks.BlockSums.eight_of_bytes.Goals as goal

pub returns : goal.returns
returns c =
    let above = c.args.self.now in let below = c.args.below.now in let k = c.args.k in
    let ks = range_with_len k 8 in let windows = map (window_of above below) ks in let few = c.requires.sums in
    let part : (f : PixelSums → ℕ) → _ = λ f. sym (map-map f (window_of above below) ks) in
    c.similarities_of_bytes.ensures windows (each_mapped AreSumsOfBytes (window_of above below) k 8 few)
    (c.sums_of_windows.ensures (λ j h h1. omega (arith, (few j h h1).first)) ∙ part (λ w. w.first))
    (c.sums_of_windows-2.ensures (λ j h h1. omega (arith, (few j h h1).second)) ∙ part (λ w. w.second))
    (c.sums_of_windows-3.ensures (λ j h h1. omega (arith, (few j h h1).squares)) ∙ part (λ w. w.squares))
    (c.sums_of_windows-4.ensures (λ j h h1. omega (arith, (few j h h1).products)) ∙ part (λ w. w.products))
    ∙ map-map (similarity_of c.args.constants.now) (window_of above below) ks
