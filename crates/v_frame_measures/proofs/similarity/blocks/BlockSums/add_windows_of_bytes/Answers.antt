-- The loop steps add one more window, or eight windows. After the last step, all windows are added.
use Rattle.std.proofs.Common.{ℕ, ◌≡◌, ◌+◌, ◌-◌, ◌*◌, List, get_or, min, ap, ◌∙◌, arith, refl}
use Rattle.std.specs.Float.Ieee.{Float}
use Rattle.std.proofs.lemmas.List.FromFn.{get_or-map-range_with_len}
use Rattle.v_frame_measures.specs.BlockSums.{window_of}
use Rattle.v_frame_measures.specs.Ssim.{similarity_of}
use Rattle.v_frame_measures.proofs.Lines.{one_more_added}
use Rattle.v_frame_measures.proofs.similarity.blocks.BlockSums.add_windows_of_bytes.Goals as goal

pub eight_of_bytes-found-requires-clause-sums : goal.eight_of_bytes-found-requires-clause-sums
eight_of_bytes-found-requires-clause-sums g c j h h1 = c.requires.sums j (omega (arith, h1, c.min-k.ensures, c.requires.many))

pub loop-eight-init : goal.loop-eight-init
loop-eight-init g c = let none : min (8 * 0) c.args.windows ≡ 0 = omega arith in rw none refl

pub loop-eight-preserved : goal.loop-eight-preserved
loop-eight-preserved g c =
    let done : c.min-k.result + c.loop-i.i ≡ min (8 * (c.loop-eight.eight + 1)) c.args.windows =
    omega (arith, c.min-k.ensures, c.requires.many) in
    rw done at c.loop-i.invariant

pub loop-i-init : goal.loop-i-init
loop-i-init g c =
    let begun : c.min-k.result + (8 * c.loop-eight.eight - c.min-k.result) ≡ min (8 * c.loop-eight.eight) c.args.windows =
    omega (arith, c.min-k.ensures) in
    rw begun c.loop-eight.invariant

pub loop-i-preserved : goal.loop-i-preserved
loop-i-preserved g c =
    let k = c.min-k.result in let i = c.loop-i.i in
    let at : ℕ → Float = λ j. similarity_of c.args.constants.now (window_of c.args.self.now c.args.below.now j) in
    let next : k + (i + 1) ≡ k + i + 1 = omega arith in
    let read = ap (λ (found : List Float). get_or found i _) c.eight_of_bytes-found.ensures
    ∙ get_or-map-range_with_len at k 8 i (k + i) _ c.loop-i-test.true refl in
    rw next
    (c.with_window-sum.ensures
    ∙ one_more_added g.F.LineSum.format at 0 (k + i) (k + i) (g.F.LineSum.float c.args.sum) _ _ (omega arith) c.loop-i.invariant read)

pub returns : goal.returns
returns g c =
    let all : min (8 * c.loop-eight.eight) c.args.windows ≡ c.args.windows = omega arith in rw all at c.loop-eight.invariant
