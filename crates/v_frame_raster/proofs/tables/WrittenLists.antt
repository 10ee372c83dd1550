-- Lists that loops write from the front.
use Rattle.std.proofs.Common.{ℕ, ◌≡◌, ◌+◌, ◌<◌, ◌≤◌, List, length, Some}
use Rattle.std.proofs.Common.{slice_get, slice_set, refl, sym, ◌∙◌, arith, length-set}
use Rattle.std.proofs.lemmas.Option.{slice_get_within}
use Rattle.v_frame_raster.specs.Laws.{AgreesBelow, WrittenBelow}
use Rattle.v_frame_raster.proofs.tables.Lists.{same_by_slice_get, set_is_read, others_are_read}
use borrow.Author.Count.{below_more}

module _ {X : Type 0} where
  pub agrees_begun : (expected now : List X) → length now ≡ length expected → AgreesBelow expected now 0
  agrees_begun expected now long = record { long = long; same = λ k h. absurd (omega arith) }

  pub agrees_more : (expected now : List X) (i : ℕ) (item : X) → AgreesBelow expected now i
      → slice_get expected i ≡ Some item → AgreesBelow expected (slice_set now i item) (i + 1)
  agrees_more expected now i item so_far is =
      let within : i < length now = omega (arith, so_far.long, slice_get_within expected i item is) in
      record {
        long = length-set now i item ∙ so_far.long;
        same =
            below_more (λ k. slice_get (slice_set now i item) k ≡ slice_get expected k) i
            (λ k h. others_are_read now i k item (λ e. absurd (omega (arith, e))) ∙ so_far.same k h)
            (set_is_read now i item within ∙ sym is);
      }

  pub agrees_whole : (expected now : List X) (end : ℕ) → AgreesBelow expected now end → length expected ≤ end
      → now ≡ expected
  agrees_whole expected now end all long =
      same_by_slice_get now expected all.long (λ k h. all.same k (omega (arith, all.long)))

  pub written_begun : (expected old : List X) → length old ≡ length expected → WrittenBelow expected old old 0
  written_begun expected old long = record { agrees = agrees_begun expected old long; others = λ k h. refl }

  pub written_more : (expected old now : List X) (i : ℕ) (item : X) → WrittenBelow expected old now i
      → slice_get expected i ≡ Some item → WrittenBelow expected old (slice_set now i item) (i + 1)
  written_more expected old now i item so_far is =
      record {
        agrees = agrees_more expected now i item so_far.agrees is;
        others =
            λ k h. others_are_read now i k item (λ e. absurd (omega (arith, e))) ∙ so_far.others k (omega arith);
      }

  pub written_whole : (expected old now : List X) (end : ℕ) → WrittenBelow expected old now end
      → length expected ≤ end → now ≡ expected
  written_whole expected old now end all long = agrees_whole expected now end all.agrees long
