-- Each lane is the sum of four numbers, without overflow.
use Rattle.std.proofs.Common.{ℕ, ◌≡◌, ◌+◌, ◌-◌, ◌<◌, List, length, ◌∙◌, arith}
use Rattle.std.specs.Prelude.{slice_index}
use Rattle.std.specs.List.{range_with_len}
use Rattle.std.proofs.lemmas.Simd.{zip2_of_maps}
use Rattle.v_frame_measures.proofs.ByteLanes.{plus}
use Rattle.v_frame_measures.proofs.Mapped.{map_same}
use Rattle.v_frame_measures.proofs.Windows.{eight_mapped, each_of_range, next_mapped, unwrapped}
use Rattle.v_frame_measures.specs.BlockSums.{window_sum}
use Rattle.v_frame_measures.proofs.similarity.lanes.sums_of_windows.Goals as goal

pub returns : goal.returns
returns c fits =
    let k = c.args.k in let above = c.args.above.now in let below = c.args.below.now in let ks = range_with_len k 8 in
    let here : (xs : List ℕ) → length xs ≡ 128 → _ = λ xs long. eight_mapped xs k (k + 8 - k) (omega arith) (omega (arith, long)) in
    let next : (xs : List ℕ) → length xs ≡ 128 → _ =
    λ xs long. eight_mapped xs (k + 1) (k + 9 - (k + 1)) (omega arith) (omega (arith, long)) ∙ next_mapped (slice_index xs) 8 k in
    let u : ℕ → ℕ = slice_index above in let v : ℕ → ℕ = slice_index below in
    zip2_of_maps plus (λ j. plus (u j) (v j)) (λ j. plus (u (j + 1)) (v (j + 1))) ks
    (zip2_of_maps plus u v ks (here above c.told-above) (here below c.told-below))
    (zip2_of_maps plus (λ j. u (j + 1)) (λ j. v (j + 1)) ks (next above c.told-above) (next below c.told-below))
    ∙ map_same (λ j. window_sum above below j < 4294967296) _ (window_sum above below) ks (unwrapped above below)
    (each_of_range _ k 8 fits)
