-- The effect of a call of an iterator that lends pixels, in two steps. The first step may only begin a row. Assumes
-- `Logic`.
-- - keeps_same: an unchanged iterator keeps the pixels.
-- - after_keeping: a step that keeps the pixels, followed by another one.
-- - yields_pixel, moves, yields_none, rests: the plain clauses of a call that yields a pixel, and of a call that
--   yields none.
use Rattle.v_frame_buffer.proofs.Steps.{◌≡◌, List, [], ◌∷◌, length, Option, Some, None, MutBor, sym, ap, ◌∙◌, arith, ⊤}
use Rattle.v_frame_buffer.proofs.Steps.{MakesProgress, item_count, SProp, all, emp, ent, sep, wand, RattleType, Ura, ‵}
use Rattle.v_frame_buffer.proofs.Steps.{raw, ◌$◌, ◌∵◌, !, qed, assume, done, each, move, use2, Logic, sem}
use Rattle.v_frame_buffer.proofs.Steps.{length-append}
use Rattle.v_frame_plane.specs.PixelsLeft.{pixels_left}
use Rattle.v_frame_plane.specs.FinalPixels.{FinalPixels, KeepsPixels}
use Rattle.v_frame_plane.specs.declared.pixels_mut.PixelsMut.{PixelsMut}
use Rattle.v_frame_buffer.proofs.Loans.{at_one}
use Rattle.v_frame_plane.proofs.lent.Sides.{Side, at_front, at_back, Steps, Yields}

module _ {M : Type 1} {𝓤 : Ura M} (𝓛 : Logic 𝓤) (T : RattleType) where
  abbrev FinalItems : PixelsMut T.Denot → List T.Denot → SProp 𝓤
  FinalItems walk second = sem 𝓛 (FinalPixels T walk second)

  -- If these values are held, the iterator has the corresponding final values.
  abbrev pub Leaves : {H : Type 0} (held : H → SProp 𝓤) (second : H → List T.Denot) → PixelsMut T.Denot → SProp 𝓤
  Leaves {H} held second walk = all 𝓤 (λ (h : H). wand 𝓤 (held h) (FinalItems walk (second h)))

  -- The final values of the intermediate iterator are those of the iterator before.
  pub after_keeping : {H : Type 0} (held : H → SProp 𝓤) (second : H → List T.Denot) (old mid : PixelsMut T.Denot) →
      ent 𝓤 (sep 𝓤 (sem 𝓛 (KeepsPixels T old mid)) (Leaves held second mid)) (Leaves held second old)
  after_keeping {H} held second old mid =
      qed 𝓛 (‵ (KeepsPixels T old mid) ∷ raw (Leaves held second mid) ∷ []) ∵
      each ! (λ (h : H). wand 𝓤 (held h) (FinalItems old (second h))) (λ h. assume ! (raw (held h)) $
      move ! (2 ∷ 0 ∷ []) $ use2 𝓛 (raw (FinalItems mid (second h))) (at_one 𝓛 held (λ x. FinalItems mid (second x)) h)
      $
      move ! (1 ∷ 0 ∷ []) $ use2 𝓛 (raw (FinalItems old (second h)))
      (at_one 𝓛 (FinalItems mid) (FinalItems old) (second h)) $ done !)

  pub keeps_same : (walk : PixelsMut T.Denot) → ent 𝓤 (emp 𝓤) (sem 𝓛 (KeepsPixels T walk walk))
  keeps_same walk = qed 𝓛 [] ∵ each ! (λ (xs : List T.Denot). wand 𝓤 (FinalItems walk xs) (FinalItems walk xs))
      (λ xs. assume ! (raw (FinalItems walk xs)) $ done !)

module _ {X : Type 0} (old new : PixelsMut X) where
  abbrev pub no_pixel : Option (MutBor X)
  no_pixel = None

  pub rests : pixels_left new ≡ pixels_left old → MakesProgress (λ _. ⊤) (item_count pixels_left) old no_pixel new
  rests same = record { on = λ _. tt; keeps = tt; rests = λ _. tt }

  pub yields_none : (s : Side) → pixels_left new ≡ pixels_left old → pixels_left new ≡ [] → Yields s old no_pixel new
  yields_none at_front same none = (sym same ∙ none, none)
  yields_none at_back same none = (sym same ∙ none, none)

  module _ (pixel : MutBor X) where
    pub yields_pixel : (s : Side) → Steps s old pixel new → Yields s old (Some pixel) new
    yields_pixel at_front steps = steps
    yields_pixel at_back steps = steps

    pub moves : (s : Side) → Steps s old pixel new → MakesProgress (λ _. ⊤) (item_count pixels_left) old (Some pixel)
        new
    moves at_front is = record { on = λ _. (tt, tt, omega (arith, ap length is)); keeps = tt; rests = λ _. tt }
    moves at_back is = record {
      on = λ _. (
        tt,
        tt,
        omega
            (arith, ap length is, length-append (pixels_left new) (pixel.now ∷ [])),
      );
      keeps = tt;
      rests = λ _. tt;
    }
