-- The loop step: one more sum.
use Rattle.std.proofs.Common.{◌≡◌, ◌+◌, ◌*◌, ◌<◌, length, get_or, set, below_more, refl, ◌∙◌, arith}
use Rattle.std.proofs.lemmas.List.{get_or-set_same, get_or-set_other, length-set}
use Rattle.v_frame_measures.specs.ColumnSums.{four_of}
use Rattle.v_frame_measures.proofs.similarity.columns.put_sums_of_fours.Goals as goal

pub loop-j-init : goal.loop-j-init
loop-j-init c = record { long = c.told-sums; made = λ i h. absurd (omega (arith, h)); kept = λ i h. refl }

pub loop-j-preserved : goal.loop-j-preserved
loop-j-preserved c =
    let sums = c.loop-j.sums in let k = c.args.k in let j = c.loop-j.j in let numbers = c.args.numbers.now in
    let so_far = c.loop-j.invariant in let new = four_of numbers (4 * j) in
    let room : k + j < length sums = omega (arith, so_far.long, c.requires.inside, c.loop-j-test.true) in
    record {
      long = length-set sums (k + j) new ∙ so_far.long;
      made =
          below_more (λ i. get_or (set sums (k + j) new) (k + i) 0 ≡ four_of numbers (4 * i)) j
          (λ i h. get_or-set_other sums (k + j) (k + i) new 0 (λ e. absurd (omega (arith, h))) ∙ so_far.made i h)
          (get_or-set_same sums (k + j) new 0 room);
      kept = λ i h. get_or-set_other sums (k + j) i new 0 (λ e. absurd (omega (arith, h))) ∙ so_far.kept i h;
    }
