-- Samples of two chroma rows that were encoded to the front of a block.
use Rattle.std.proofs.Common.{ℕ, zero, suc, ◌≡◌, ◌<◌, List, [], ◌∷◌, ◌++◌, length, take, drop, refl, ◌∙◌, ap}
use Rattle.std.proofs.Common.{arith, length-append, append_assoc}
use Rattle.std.proofs.lemmas.List.{take_at}
use Rattle.v_frame.specs.Prelude.{PixelForm, row_major}
use Rattle.v_frame_ops.specs.Change.{combined}
use Rattle.v_frame_semi_planar.specs.Interleaved.{interleaved}
use Rattle.v_frame_semi_planar.specs.Pending.{pixels_pending, Encodes}
use Rattle.v_frame_semi_planar.specs.SemiPlanar.{stored_bytes}
use Rattle.v_frame_semi_planar.specs.declared.pending.Pending.{Pending}
use Rattle.v_frame_semi_planar.proofs.Stored.{interleaved-cut, stored-append}

module _ {X : Type 0} where
  -- If one of two lists is empty, interleaving them gives nothing.
  pub no_first_turn : (us vs : List X) → length us ≡ 0 → interleaved us vs ≡ []
  no_first_turn [] vs none = refl
  no_first_turn (u ∷ us) vs none = absurd (omega arith)

  pub no_second_turn : (us vs : List X) → length vs ≡ 0 → interleaved us vs ≡ []
  no_second_turn [] vs none = refl
  no_second_turn (u ∷ us) [] none = refl
  no_second_turn (u ∷ us) (v ∷ vs) none = absurd (omega arith)

  some_turns : (n : ℕ) (us vs : List X) → 0 < n → 0 < length us → 0 < length vs
      → 0 < length (interleaved (take n us) (take n vs))
  some_turns zero us vs some first second = absurd (omega arith)
  some_turns (suc n) [] vs some first second = absurd (omega arith)
  some_turns (suc n) (u ∷ us) [] some first second = absurd (omega arith)
  some_turns (suc n) (u ∷ us) (v ∷ vs) some first second = omega arith

module _ {T : Type 0} (form : PixelForm T) (unused : ℕ) (old new : Pending T) (n end : ℕ) (part behind : List ℕ) where
  -- Some samples of each row were encoded.
  pub chroma_encoded : old.luma.now ≡ [] → old.luma_rows ≡ [] → new.luma.now ≡ [] → new.luma_rows ≡ []
      → new.first_rows ≡ old.first_rows → new.second_rows ≡ old.second_rows → new.first.now ≡ drop n old.first.now
      → new.second.now ≡ drop n old.second.now → 0 < n → 0 < length old.first.now → 0 < length old.second.now
      → part ≡ stored_bytes form unused (interleaved (take n old.first.now) (take n old.second.now))
      → length part ≡ end → Encodes form unused old new (part ++ behind) end
  chroma_encoded no_luma no_rows no_luma_new no_rows_new firsts seconds first second some some_us some_vs made long =
      let us = old.first.now in
      let vs = old.second.now in
      let begun = interleaved (take n us) (take n vs) in
      let rest = interleaved (drop n us) (drop n vs) in
      let after = row_major (combined interleaved old.first_rows old.second_rows) in
      let left : pixels_pending new ≡ rest ++ after =
      rw (no_luma_new, no_rows_new, firsts, seconds, first, second) refl in
      let all : pixels_pending old ≡ begun ++ pixels_pending new =
      rw (no_luma, no_rows, interleaved-cut n us vs, left) (append_assoc begun rest after) in
      record {
        bound = omega (arith, length-append part behind, long);
        bytes =
            ap (stored_bytes form unused) all ∙ stored-append form unused begun (pixels_pending new)
            ∙ rw (take_at part behind end long, made) refl;
        fewer =
            omega (
              arith,
              ap length all,
              length-append begun (pixels_pending new),
              some_turns n us vs some some_us some_vs,
              ap length no_rows,
              ap length no_rows_new,
              ap length firsts,
            );
      }
