-- One element of a slice that is read by its index: the value behind a `&` to it, and one more element of a list.
-- Assumes `Logic`.
use Rattle.v_frame_buffer.proofs.Steps.{RattleType, Val, vptr, mem, Goal, Item, Step, step, feq_i, fjoin, ℕ, ◌≡◌, ◌+◌}
use Rattle.v_frame_buffer.proofs.Steps.{◌*◌, ◌<◌, List, [], ◌∷◌, ◌++◌, length, take, refl, ap, arith, Lft, ent, Ura, ‵}
use Rattle.v_frame_buffer.proofs.Steps.{◌$◌, ◌∵◌, !, qed, done, fsplit, keep, rewrite, use1, Logic, sem, Fml}
use Rattle.v_frame_buffer.proofs.Steps.{hidden_shr, shared_of, RowLaws, ShrRef, elements_shared, Lifetime}
use Rattle.std.specs.Prelude.{zero, suc}
use base.Fml.{fhide}
use denote.Index.{place, place_is}
use denote.Memory.{each_shared}
use denote.Opens.{laws_dup}
use denote.Slice.{elements_shr_laws}

module _ {D : Type 0} where
  pub nth_of : (xs : List D) (i : ℕ) → i < length xs → D
  nth_of [] i h = absurd (omega arith)
  nth_of (x ∷ xs) zero h = x
  nth_of (x ∷ xs) (suc i) h = nth_of xs i (omega arith)

  pub take-nth : (xs : List D) (i : ℕ) (h : i < length xs) → take (i + 1) xs ≡ take i xs ++ nth_of xs i h ∷ []
  unfolding nth_of
  take-nth [] i h = absurd (omega arith)
  take-nth (x ∷ xs) zero h = refl
  take-nth (x ∷ xs) (suc i) h =
      let e : suc i + 1 ≡ suc (i + 1) = omega arith in
      rw e (ap (λ ys. x ∷ ys) (take-nth xs i (omega arith)))

  module _ {M : Type 1} {𝓤 : Ura M} (𝓛 : Logic 𝓤) (c : D → ℕ → ℕ → Lft → Fml) (size b : ℕ) (κ : Lft) where
    pub shared_at : (xs : List D) (o i : ℕ) (h : i < length xs) → ent 𝓤 (sem 𝓛 (each_shared xs c size b o κ))
        (sem 𝓛 (c (nth_of xs i h) b (place size o i) κ))
    unfolding nth_of
    shared_at [] o i h = absurd (omega arith)
    shared_at (x ∷ xs) o zero h = qed 𝓛 (‵ (each_shared (x ∷ xs) c size b o κ) ∷ []) ∵ fsplit ! $ keep ! (0 ∷ []) $
        done !
    shared_at (x ∷ xs) o (suc i) h = qed 𝓛 (‵ (each_shared (x ∷ xs) c size b o κ) ∷ []) ∵ fsplit ! $ keep ! (1 ∷ []) $
        use1 𝓛 (‵ (c (nth_of xs i (omega arith)) b (place size (o + size) i) κ))
        (shared_at xs (o + size) i (omega arith)) $ done !

-- A `&` to an element, taken from a `&` to the slice.
module _ {M : Type 1} {𝓤 : Ura M} {𝓛 : Logic 𝓤} {K : Type 0} {Γ : List (Item 𝓤)} {G : Goal 𝓤 𝓛.H} where
  pub lends_nth : K → (R : RattleType) → RowLaws R → (ℓ : Lifetime) (κ : Lft) (xs : List R.Denot) (b o i : ℕ)
      (h : i < length xs)
      → let p = i * (mem R).size + o in let Each : Item 𝓤 = ‵ (fhide (elements_shared R xs b o κ)) in
      Step K 𝓛 (‵ ((ShrRef ℓ κ R).own_val (record { ref_ptr = (b, p); now = nth_of xs i h }) (vptr b p ∷ [])) ∷ Each ∷
      Γ) G (Each ∷ Γ) G
  lends_nth t R shr ℓ κ xs b o i h = step (λ k. let p = i * (mem R).size + o in
      laws_dup t (elements_shared R xs b o) (elements_shr_laws R shr xs b o) κ $
      use1 𝓛 (‵ (hidden_shr R κ (nth_of xs i h) b (place (mem R).size o i)))
      (shared_at 𝓛 (shared_of R) (mem R).size b κ xs o i h) $
      rewrite t 0 (λ (n : ℕ). ‵ (hidden_shr R κ (nth_of xs i h) b n)) (place_is (mem R).size o i) refl $
      feq_i t (List Val) (vptr b p ∷ []) (vptr b p ∷ []) refl $ fjoin t $ k)
