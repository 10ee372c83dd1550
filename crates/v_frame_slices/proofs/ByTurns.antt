-- A change of each pixel of two pictures is the same change of the pixels of the interleaved
-- picture.
use Rattle.std.proofs.Common.{◌≡◌, List, [], ◌∷◌, refl, ◌∙◌, ap}
use Rattle.v_frame.specs.Prelude.{Table}
use Rattle.v_frame_ops.specs.Prelude.{combined, mapped}
use Rattle.v_frame_semi_planar.specs.Interleaved.{interleaved}

module _ {X : Type 0} (change : X → X) where
  mapped_row : (us vs : List X) → mapped change (interleaved us vs) ≡ interleaved (mapped change us) (mapped change vs)
  mapped_row [] vs = refl
  mapped_row (u ∷ us) [] = refl
  mapped_row (u ∷ us) (v ∷ vs) = ap (λ xs. change u ∷ change v ∷ xs) (mapped_row us vs)

  pub mapped_by_turns : (us vs : Table X) → mapped (mapped change) (combined interleaved us vs)
      ≡ combined interleaved (mapped (mapped change) us) (mapped (mapped change) vs)
  mapped_by_turns [] vs = refl
  mapped_by_turns (u ∷ us) [] = refl
  mapped_by_turns (u ∷ us) (v ∷ vs) =
      ap (λ row. row ∷ mapped (mapped change) (combined interleaved us vs)) (mapped_row u v)
      ∙ ap (λ rows. interleaved (mapped change u) (mapped change v) ∷ rows) (mapped_by_turns us vs)
