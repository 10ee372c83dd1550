-- The entries of a block in the form that a slice has, and the `Cells` to which they return.
use Rattle.v_frame_buffer.proofs.Steps.{◌≡◌, refl, ap, ℕ, ◌+◌, ◌*◌, List, [], ◌∷◌, ◌++◌, length, Ura, full_share, ent}
use Rattle.v_frame_buffer.proofs.Steps.{sep, Lft, Fml, ‵, ◌⊛◌, ◌$◌, !, ◌∵◌, qed, move, use1, use2, split, rewrite}
use Rattle.v_frame_buffer.proofs.Steps.{fjoin, frame, done, Logic, sem, RattleType, suc, froom, ty_array, by, lone}
use Rattle.v_frame_buffer.proofs.Steps.{part_at, shared_of, beside, elements_shared, type_size, cells, mem, fsep, ◌∙◌}
use Rattle.v_frame_buffer.proofs.Steps.{sym, at_mul, nothing, join_app}
use Rattle.v_frame_buffer.specs.Block.{entries_at, room_at, lent_at}

module _ (R : RattleType) (b : ℕ) where
  -- The resources of the entries are those of the elements of a slice.
  pub entries_are_cells : (xs : List R.Denot) (o : ℕ) → entries_at R b o xs ≡ cells (mem R) xs b o
  entries_are_cells [] o = refl
  entries_are_cells (x ∷ xs) o = ap (λ (rest : Fml). fsep (part_at R full_share x b o) rest)
      (entries_are_cells xs (o + type_size R))

  -- A `&` to the entries lends the same as a `&` to the slice.
  pub lent_are_shared : (xs : List R.Denot) (o : ℕ) → lent_at R b o xs ≡ elements_shared R xs b o
  lent_are_shared [] o = refl
  lent_are_shared (x ∷ xs) o = ap (λ (rest : Lft → Fml). beside (shared_of R x b o) rest)
      (lent_are_shared xs (o + type_size R))

module _ (R : RattleType) {M : Type 1} {𝓤 : Ura M} (𝓛 : Logic 𝓤) (b : ℕ) where
  open 𝓛 use {H}

  -- Memory for some entries is memory for the first of them, and memory for the others.
  pub first_place : (o n : ℕ) → ent 𝓤 (sem 𝓛 (room_at R b o (suc n)))
      (sep 𝓤 (H.room (lone R.mir) b o) (sem 𝓛 (room_at R b (o + type_size R) n)))
  first_place o n =
      let τ = lone R.mir in
      qed 𝓛 (‵ (room_at R b o (suc n)) ∷ []) ∵ use1 𝓛 (‵ (froom (ty_array τ (suc n)) b o))
      (𝓛.laws.raw-room (ty_array τ (suc n)) b o) $
      use1 𝓛 (‵ (froom τ b o) ⊛ ‵ (froom (ty_array τ n) b (o + type_size R))) (𝓛.laws.room_uncons τ n b o) $ split ! $
      frame ! $
      by ! (𝓛.laws.room-raw (ty_array τ n) b (o + type_size R))

  -- An entry after the others is one of the entries.
  pub put_last : (xs : List R.Denot) (x : R.Denot) (o k : ℕ) → k ≡ length xs * type_size R + o
      → ent 𝓤 (sep 𝓤 (sem 𝓛 (entries_at R b o xs)) (sem 𝓛 (part_at R full_share x b k)))
      (sem 𝓛 (entries_at R b o (xs ++ x ∷ [])))
  put_last xs x o k e =
      let all = xs ++ x ∷ [] in
      qed 𝓛 (‵ (entries_at R b o xs) ∷ ‵ (part_at R full_share x b k) ∷ []) ∵ rewrite ! 0 (λ (f : Fml). ‵ f)
      (entries_are_cells R b xs o) refl $
      rewrite ! 1 (λ (n : ℕ). ‵ (part_at R full_share x b n)) (e ∙ sym (at_mul o (type_size R) (length xs))) refl $
      nothing ! $ move ! (2 ∷ 0 ∷ []) $ fjoin ! $ move ! (1 ∷ 0 ∷ []) $ use2 𝓛 (‵ (cells (mem R) all b o))
      (join_app 𝓛 (mem R) xs (x ∷ []) b o) $
      rewrite ! 0 (λ (f : Fml). ‵ f) (sym (entries_are_cells R b all o)) refl $ done !
