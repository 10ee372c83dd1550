-- A part of a block's entries in the form that a slice has, and the `Cells` to which it returns.
use Rattle.v_frame_buffer.proofs.Steps.{◌≡◌, refl, sym, ℕ, ◌+◌, ◌*◌, ◌^◌, ◌<◌, ◌≤◌, arith, List, [], ◌∷◌, ◌++◌, length}
use Rattle.v_frame_buffer.proofs.Steps.{take, list_drop as drop, length-drop, Ura, full_share, ent, sep, Fml, fsep, Val}
use Rattle.v_frame_buffer.proofs.Steps.{‵, ◌⊛◌, ◌$◌, ◌∵◌, !, qed, move, use1, use2, split, rewrite, fsplit, fsplit3}
use Rattle.v_frame_buffer.proofs.Steps.{fjoin, fpack, done, Logic, sem, RattleType, mem, cell_at, subst}
use Rattle.v_frame_buffer.proofs.Steps.{take-append-drop, length-take, length-append, flt_i, cells, cut_app, join_app}
use Rattle.v_frame_buffer.proofs.Steps.{Ptr, block_ptr, Struct, type_size}
use lib.Seq.{take_at}
use borrow.Table.Elements.{at, length-take-le}
use denote.Memory.{part_of}
use denote.Struct.Owning.{shape}
use Rattle.v_frame_buffer.specs.Block.{entries_at, room_at, cells_own}
use Rattle.v_frame_buffer.specs.BlockLends.{with_items}
use Rattle.v_frame_buffer.specs.Part.{with_part}
use Rattle.v_frame_buffer.specs.contracts.aligned.block.Cells.{the_row, the_type}
use Rattle.v_frame_buffer.proofs.block.BlockEntries.{entries_are_cells}

module _ (R : RattleType) (d : (the_row R).Denot) (start : ℕ) where
  abbrev xs : List R.Denot
  xs = d.items

  -- The address of the entries from `start` on, if the first entry lies at o.
  abbrev pub from : ℕ → ℕ
  from o = at o (type_size R) (length (take start xs))

  -- The cells d after a slice of their entries from `start` on had the final value ws.
  abbrev pub rewritten : List R.Denot → (the_row R).Denot
  rewritten ws = with_items d (with_part xs start ws)

  module _ (b o n : ℕ) where
    abbrev Row : List R.Denot → ℕ → Fml
    Row ws = cells (mem R) ws b

    abbrev behind : List R.Denot
    behind = drop n (drop start xs)

    -- All entries except the n entries from `start` on.
    abbrev pub Others : Fml
    Others = fsep (Row behind (at (from o) (type_size R) n)) (Row (take start xs) o)

    -- The resources of a `Cells` d at (rb, ro) except those n entries: the other entries, the uninitialized memory,
    -- and its one field, which takes no bytes.
    abbrev pub Around : List Val → (rb ro : ℕ) → Fml
    Around vs rb ro = fsep Others (fsep (room_at R b (length xs * type_size R + o) d.spare)
        (fsep ((Struct (shape (the_type R))).own_val (tt, tt) vs) (cell_at full_share (the_row R).mir vs rb ro)))

    module _ {M : Type 1} {𝓤 : Ura M} (𝓛 : Logic 𝓤) where
      -- The part is taken out of the entries.
      pub part_out : start + n ≤ length xs → ent 𝓤 (sem 𝓛 (entries_at R b o xs))
          (sep 𝓤 (sem 𝓛 (Row (take n (drop start xs)) (from o))) (sem 𝓛 Others))
      part_out within =
          let rest = drop start xs in let part = take n rest in
          let count : length part ≡ n = length-take-le n rest (omega (arith, length-drop start xs)) in
          qed 𝓛 (‵ (entries_at R b o xs) ∷ []) ∵ rewrite ! 0 (λ (f : Fml). ‵ f) (entries_are_cells R b xs o) refl $
          rewrite ! 0 (λ (l : List R.Denot). ‵ (Row l o)) (sym (take-append-drop start xs)) refl $
          use1 𝓛 (‵ (Row (take start xs) o) ⊛ ‵ (Row rest (from o))) (cut_app 𝓛 (mem R) (take start xs) rest b o) $
          split ! $ move ! (1 ∷ []) $
          rewrite ! 0 (λ (l : List R.Denot). ‵ (Row l (from o))) (sym (take-append-drop n rest)) refl $
          use1 𝓛 (‵ (Row part (from o)) ⊛ ‵ (Row behind (at (from o) (type_size R) (length part))))
          (cut_app 𝓛 (mem R) part behind b (from o)) $ split ! $
          rewrite ! 1 (λ (k : ℕ). ‵ (Row behind (at (from o) (type_size R) k))) count refl $ done !

      -- With as many entries in place of the part, a `Cells` is whole again.
      pub part_in : (vs : List Val) (rb ro : ℕ) → d.at ≡ block_ptr b o → (length xs + d.spare) * type_size R < 2 ^ 63
          → start + n ≤ length xs → (ws : List R.Denot) → length ws ≡ n
          → ent 𝓤 (sep 𝓤 (sem 𝓛 (Row ws (from o))) (sem 𝓛 (Around vs rb ro)))
          (sem 𝓛 ((mem (the_row R)).own_at (rewritten ws) rb ro))
      unfolding part_of
      part_in vs rb ro e small within ws same =
          let s = type_size R in let m = length ws in let rest = drop m (drop start xs) in let new = take start xs ++
          (ws ++ rest) in
          let long : length new ≡ length xs = simp (length-append, length-take, length-drop)
          (omega (arith, same, within)) in
          let all : new ≡ with_part xs start ws = sym (take_at new (drop (length new) xs) (length xs) long) in
          qed 𝓛 (‵ (Row ws (from o)) ∷ ‵ (Around vs rb ro) ∷ []) ∵ move ! (1 ∷ []) $ fsplit ! $ fsplit ! $
          rewrite ! 0 (λ (k : ℕ). ‵ (Row (drop k (drop start xs)) (at (from o) s k))) (sym same) refl $ move !
          (3 ∷ 0 ∷ []) $
          use2 𝓛 (‵ (Row (ws ++ rest) (from o))) (join_app 𝓛 (mem R) ws rest b (from o)) $ move ! (1 ∷ 0 ∷ []) $
          use2 𝓛 (‵ (Row new o)) (join_app 𝓛 (mem R) (take start xs) (ws ++ rest) b o) $
          rewrite ! 0 (λ (f : Fml). ‵ f) (sym (entries_are_cells R b new o)) refl $ move ! (1 ∷ []) $ fsplit3 ! $
          -- Context: [the uninitialized memory; the marker; its cell; the entries]
          rewrite ! 0 (λ (k : ℕ). ‵ (room_at R b (k * s + o) d.spare)) (sym long) refl $ move ! (3 ∷ 0 ∷ []) $ fjoin ! $
          flt_i ! ((length new + d.spare) * s) (2 ^ 63) (subst (λ k. (k + d.spare) * s < 2 ^ 63) (sym long) small) $
          fjoin ! $
          rewrite ! 0 (λ (c : Ptr × List R.Denot). ‵ (cells_own R c.0 c.1 d.spare)) (λ i. (sym e i, all i)) refl $
          move ! (1 ∷ 0 ∷ []) $ fjoin ! $ move ! (1 ∷ 0 ∷ []) $ fjoin ! $
          fpack ! (List Val) (λ us. fsep (cell_at full_share (the_row R).mir us rb ro)
          ((the_row R).own_val (rewritten ws) us)) vs $ done !
