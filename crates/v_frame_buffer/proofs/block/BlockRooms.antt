-- Lemmas for all proofs of `aligned/block.rt`: facts that are joined, a product with a size, the parts as types of
-- the logic, and memory for entries. Assumes `Logic`.
use Rattle.v_frame_buffer.proofs.Steps.{◌≡◌, refl, sym, ◌∙◌, ℕ, ◌+◌, ◌*◌, Ura, Val, vstruct, vcons, vnil, SProp, ent}
use Rattle.v_frame_buffer.proofs.Steps.{sep, emp, wand, fact, mono_r, fst∗, via, froom, Logic, sem, ‵, ◌$◌, ◌∵◌, !, qed}
use Rattle.v_frame_buffer.proofs.Steps.{by, move, rewrite, RattleType, zero-mul, add_comm, ty_array, Struct, type_size}
use Rattle.v_frame_buffer.proofs.Steps.{El, R, elτ, Al, P, as_written, align, List, [], ◌∷◌, Env, Opd, Ty, op2}
use Rattle.v_frame_buffer.proofs.Steps.{unsigned, vint, w64, size, is, bin, size_word, subst, ap, ◌<◌, ◌^◌, uncapped}
use Rattle.v_frame_buffer.proofs.Steps.{Item, Rv}
use mir.Syntax.{mul, size_of}
use types.Run.{Opd as Reads}
use mir.Raw.{raw as bare}
use prog.Align.{dv_self}
use denote.Struct.Owning.{shape}
use Rattle.core.proofs.ptr.Rows as Rows
use Rattle.v_frame_buffer.specs.Block.{room_at}
use Rattle.v_frame_buffer.specs.contracts.aligned.block.Base as Base
use Rattle.v_frame_buffer.specs.contracts.aligned.block.Cells as Cells
use Rattle.v_frame_buffer.specs.contracts.aligned.block.Deed as Deed
use Rattle.v_frame_buffer.proofs.CallSteps.{both_facts}

-- The machine value of a part of size zero: the marker.
abbrev pub no_bytes : Val
no_bytes = vstruct (vcons (vstruct vnil) vnil)

-- A fact beside other facts is one more fact.
pub one_more_fact : {M : Type 1} (𝓤 : Ura M) (φ : Type 0) {P : SProp 𝓤} {ψ : Type 0} → ent 𝓤 P (fact 𝓤 ψ) → ent 𝓤
    (sep 𝓤 (fact 𝓤 φ) P) (fact 𝓤 (φ × ψ))
one_more_fact 𝓤 φ {P} {ψ} said = via 𝓤 (sep 𝓤 (fact 𝓤 φ) (fact 𝓤 ψ)) (mono_r 𝓤 (fact 𝓤 φ) said) (both_facts 𝓤 φ ψ)

-- The product of a number and the size of a type, if it fits.
module _ {M : Type 1} {𝓤 : Ura M} {𝓛 : Logic 𝓤} {K : Type 0} {Γ : List (Item 𝓤)} {Ev : Env 𝓤 𝓛.H} where
  pub counted : K → {x : Opd} {τ : Ty} (n : ℕ) → n * size τ < 2 ^ 64 → Reads K 𝓛 Γ Ev x (vint w64 n)
      → Rv K 𝓛 Γ Ev (op2 (mul unsigned) x (size_of τ)) (vint w64 (n * size τ))
  counted t {τ = τ} n fits x =
      let same = uncapped n (size τ) fits in
      is t (bin t x (size_word t) (record { fits = subst (λ k. k < 2 ^ 64) (sym same) fits })) (ap (vint w64) same)

module _ (E : El) where
  -- A `Base`, as the logic describes it.
  abbrev pub Bases : RattleType
  Bases = Base.the_row (R E)

  -- A `Cells`, as the logic describes it.
  abbrev pub Kept : RattleType
  Kept = Cells.the_row (R E)

  -- A `Deed` for the allocator Z, as the logic describes it.
  abbrev pub Deeds : Al → RattleType
  Deeds Z = Deed.the_row (R E) (P E Z) Z.g

  -- The machine values of a `Cells` and a `Deed`.
  abbrev pub Marks : RattleType
  Marks = Struct (shape (Cells.the_type (R E)))

  -- The size of an entry in bytes.
  abbrev pub wide : ℕ
  wide = type_size (R E)

  module _ {M : Type 1} {𝓤 : Ura M} (𝓛 : Logic 𝓤) where
    open 𝓛 use {H}

    abbrev Room : ℕ → ℕ → ℕ → SProp 𝓤
    Room n b o = H.room (ty_array (elτ E) n) b o

    -- Memory of zero bytes exists at every address.
    pub no_room : (n b o : ℕ) → n * wide ≡ 0 → ent 𝓤 (emp 𝓤) (Room n b o)
    no_room n b o none =
        via 𝓤 (Room 0 b o) (𝓛.laws.room_nil (elτ E) b o)
        (via 𝓤 _ (𝓛.laws.room_as (ty_array (elτ E) 0) (ty_array (elτ E) n) b o (none ∙ sym (zero-mul wide))
        (dv_self (align (elτ E))))
        (fst∗ 𝓤 (Room n b o) (wand 𝓤 (Room n b o) (Room 0 b o))))

    -- Memory for m entries, and memory for n entries after them.
    pub room_joined : (m n t b o : ℕ) → m + n ≡ t → ent 𝓤
        (sep 𝓤 (Room m b o) (sem 𝓛 (room_at (R E) b (m * wide + o) n))) (Room t b o)
    room_joined m n t b o e =
        let rows = ty_array (elτ E) n in
        qed 𝓛 (‵ (froom (ty_array (elτ E) m) b o) ∷ ‵ (froom (bare rows) b (m * wide + o)) ∷ []) ∵ move ! (1 ∷ []) $
        as_written ! rows b (m * wide + o) $ rewrite ! 0 (λ (k : ℕ). ‵ (froom rows b k)) (add_comm (m * wide) o) refl $
        move ! (1 ∷ []) $
        by ! (Rows.glued (record { row = E.row; laws = E.laws }) 𝓛 m n t b o e)
