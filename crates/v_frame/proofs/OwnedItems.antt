-- The resources of an iterator that lends, the effect of dropping it, and the memory of one of its items, for rows
-- and for pixels. Assumes `Logic`.
use Rattle.v_frame.proofs.Steps.{w64}
use Rattle.v_frame_buffer.proofs.Steps.{Item, List, Val}
use Rattle.v_frame_buffer.proofs.Steps.{param, sep, wand, via, mono_r, apply∗, SProp, MutBor, ‵, raw, ◌$◌, ◌∵◌, ◌∷◌, qed, done, frame, fsplit, move, use2}
use Rattle.v_frame_buffer.proofs.Steps.{ !, [], Fml, NamedLft}
use Rattle.v_frame_buffer.proofs.Steps.{Logic, Ura, RattleType, Ty, ent, sem}
use Rattle.v_frame_buffer.proofs.Steps.{erased}
use Rattle.v_frame_buffer.proofs.Steps.{Go}
use Rattle.v_frame_buffer.proofs.Steps.{lit, mem}
use Rattle.v_frame_buffer.proofs.Steps.{size_lit}
use Rattle.v_frame_buffer.proofs.Steps.{vint, lone}
use Rattle.v_frame_buffer.proofs.Steps.{int, Fits, Env}
use mir.Syntax.{Opd as Operand, size_of}
use Rattle.v_frame.proofs.ItemKinds.{Begins, EndsBy, Kind, Law, LendsBack, Walk, draw_row, left, neither, of_rows}
use Rattle.v_frame_raster.specs.Raster.{Raster}
use Rattle.v_frame_plane.specs.FinalRows.{WritesEachTable}
use Rattle.v_frame_plane.specs.Dropped.{DroppedRowsKeepTheirPixels}
use Rattle.v_frame_plane.specs.LendsTable.{HeldRowsAreTheTable}
use Rattle.v_frame.proofs.ItemKinds.{of_pixels, walk_row, FinalItems}
use types.Run.{Opd}

module _ (T : RattleType) where
  abbrev pub Owned : (k : Kind) → NamedLft → Walk T k → List Val → Fml
  Owned of_pixels ℓ = (walk_row of_pixels ℓ (param 0 T)).own_val
  Owned k ℓ = (walk_row k ℓ (param 0 T)).own_val

  module _ {M : Type 1} {𝓤 : Ura M} (𝓛 : Logic 𝓤) where
    abbrev Last : (k : Kind) → Walk T k → Fml
    Last k walk = FinalItems T k walk (left T k walk)

    dropped_pixels : (ℓ : NamedLft) (walk : Walk T of_pixels) (vs : List Val) → ent 𝓤 (sem 𝓛 (Law T of_pixels))
        (wand 𝓤 (sem 𝓛 (Owned of_pixels ℓ walk vs)) (sem 𝓛 (Last of_pixels walk)))
    dropped_pixels ℓ walk vs = record { apply = λ a says. says ℓ walk vs }

    dropped_rows : (ℓ : NamedLft) (walk : Walk T of_rows) (vs : List Val) →
        ent 𝓤 (sem 𝓛 (DroppedRowsKeepTheirPixels (param 0 T)))
        (wand 𝓤 (sem 𝓛 (Owned of_rows ℓ walk vs)) (sem 𝓛 (Last of_rows walk)))
    dropped_rows ℓ walk vs = record { apply = λ a says. says ℓ walk vs }

    held_rows : (plane : MutBor (Raster T.Denot)) (walk : Walk T of_rows) → WritesEachTable plane.now walk →
        ent 𝓤 (sem 𝓛 (HeldRowsAreTheTable (param 0 T)))
        (wand 𝓤 (sem 𝓛 (LendsBack T of_rows plane walk)) (sem 𝓛 (EndsBy T of_rows plane walk)))
    held_rows plane walk written = record { apply = λ a says. says plane walk written }

    by : (Gives New Last : Fml) → ent 𝓤 (sem 𝓛 Gives) (wand 𝓤 (sem 𝓛 New) (sem 𝓛 Last)) →
        ent 𝓤 (sep 𝓤 (sem 𝓛 New) (sem 𝓛 Gives)) (sem 𝓛 Last)
    by Gives New Last gives = via 𝓤 (sep 𝓤 (sem 𝓛 New) (wand 𝓤 (sem 𝓛 New) (sem 𝓛 Last)))
        (mono_r 𝓤 (sem 𝓛 New) gives) (apply∗ 𝓤 (sem 𝓛 New) (sem 𝓛 Last))

    -- By the law, the final values of a dropped iterator are its current items, and the final plane follows from the
    -- final values of the iterator with which it began.
    pub by_law : (k : Kind) (ℓ : NamedLft) (walk begun : Walk T k) (vs : List Val) (plane : MutBor (Raster T.Denot)) →
        Begins T k plane.now begun →
        ent 𝓤 (sep 𝓤 (sem 𝓛 (Law T k)) (sep 𝓤 (sem 𝓛 (Owned k ℓ walk vs)) (sem 𝓛 (LendsBack T k plane begun))))
        (sep 𝓤 (sem 𝓛 (Last k walk)) (sem 𝓛 (EndsBy T k plane begun)))
    by_law of_pixels ℓ walk begun vs plane begins =
        qed 𝓛 (‵ (Law T of_pixels) ∷ ‵ (Owned of_pixels ℓ walk vs) ∷ ‵ (LendsBack T of_pixels plane begun) ∷ []) ∵
        move ! (1 ∷ 0 ∷ []) $ use2 𝓛 (‵ (Last of_pixels walk))
        (by (Law T of_pixels) (Owned of_pixels ℓ walk vs) (Last of_pixels walk) (dropped_pixels ℓ walk vs)) $ frame ! $ done !
    by_law k ℓ walk begun vs plane begins =
        qed 𝓛 (‵ (Law T k) ∷ ‵ (Owned k ℓ walk vs) ∷ ‵ (LendsBack T k plane begun) ∷ []) ∵ fsplit ! $
        move ! (2 ∷ 0 ∷ []) $ use2 𝓛 (‵ (Last k walk))
        (by (DroppedRowsKeepTheirPixels (param 0 T)) (Owned k ℓ walk vs) (Last k walk) (dropped_rows ℓ walk vs)) $ frame ! $
        move ! (1 ∷ 0 ∷ []) $ use2 𝓛 (‵ (EndsBy T k plane begun))
        (by (HeldRowsAreTheTable (param 0 T)) (LendsBack T k plane begun) (EndsBy T k plane begun)
        (held_rows plane begun begins.tells.0)) $ done !

  -- The iterator without a named lifetime.
  abbrev pub bare : Kind → Ty
  bare k = lone (walk_row k (record { mir = erased; lft = [] }) (param 0 T)).mir

  abbrev pub size_opd : Kind → Operand
  size_opd of_pixels = size_of (lone (draw_row of_pixels (param 0 T)).mir)
  size_opd _ = int w64 32

  pub sized : (k : Kind) {M : Type 1} {𝓤 : Ura M} {𝓛 : Logic 𝓤} {Γ : List (Item 𝓤)} {E : Env 𝓤 𝓛.H} → let size =
      (mem (draw_row k (param 0 T))).size in
      Fits w64 size → Opd (Go {0}) 𝓛 Γ E (size_opd k) (vint w64 size)
  sized of_pixels fits = size_lit ! fits
  sized _ fits = lit ! tt
