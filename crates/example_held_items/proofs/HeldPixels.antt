-- Steps of a hand-written proof of a function that keeps pixels of a writing iterator: the pixels as they are
-- written, and their final values. Assumes `Logic`.
-- - ends_of: the pixels that three calls take, overwritten.
-- - writes_pixel: a kept pixel is written.
-- - gives_back: a kept pixel is dropped, and its final value is at the position from which the call took it.
use Rattle.v_frame_buffer.proofs.Steps.{◌≡◌, ◌-◌, List, [], ◌∷◌, ◌++◌, length, Some, MutBor, refl, sym, ap, ◌∙◌, arith}
use Rattle.v_frame_buffer.proofs.Steps.{append-nil, append_assoc, length-append, map, nil_from_length, Lft, Share, fat}
use Rattle.v_frame_buffer.proofs.Steps.{flft, full_share, SProp, ent, sep, RattleType, MutRef, mut_vals, closes, named}
use Rattle.v_frame_buffer.proofs.Steps.{param, layout, Val, Ura, Goal, Item, Seq, Step, step, ‵, ◌$◌, drop, feq_i}
use Rattle.v_frame_buffer.proofs.Steps.{fjoin3, fpick, fsplit3, move, use1, use3, Logic, sem, cell_at, Calls, Env}
use Rattle.v_frame_buffer.proofs.Steps.{Loops, Post, runs, assigns, assign, seq, Place, has_ty, WT, Rv, Finds}
use lib.Dec.{T as Holds}
use denote.Param.Laws.{IsCopy}
use mir.Syntax.{Body as Code, Rv as RValue}
use types.Run.{store}
use Rattle.v_frame.specs.Prelude.{PixelsMut}
use Rattle.v_frame.proofs.ItemKinds.{Ends, Lends, FinalItems, of_pixels}
use Rattle.std.proofs.{Common.take_at}
use Rattle.v_frame.specs.{DrawnItems.put_back, declared.replay.draw.Side.Side}
use Rattle.v_frame.specs.{declared.replay.draw.Side.TheVariants.Back, declared.replay.draw.Side.TheVariants.Front}
use Rattle.v_frame_buffer.proofs.{Loans.at_one, Loans.opens_self}
use Rattle.example_held_items.specs.{HeldPixels.with_ends}

-- Three calls, from the back, the front and the back, take the last pixel, the first pixel and the last but one.
pub ends_of : {X : Type 0} (pixels one two three : List X) (a b c x y z : X) → pixels ≡ one ++ c ∷ [] → one ≡ a ∷ two →
    two ≡ three ++ b ∷ []
    → (x ∷ (three ++ y ∷ [])) ++ z ∷ [] ≡ with_ends x y z pixels
ends_of pixels one two three a b c x y z last first before =
    let all : pixels ≡ a ∷ (three ++ (b ∷ c ∷ [])) = rw (last, first, before, append_assoc three (b ∷ []) (c ∷ []))
    refl in
    let long : length pixels - 3 ≡ length three = omega (arith, ap length all, length-append three (b ∷ c ∷ [])) in
    rw (long, all, take_at three (b ∷ c ∷ []) (length three) refl, append_assoc three (y ∷ []) (z ∷ [])) refl

module _ {M : Type 1} {𝓤 : Ura M} (𝓛 : Logic 𝓤) (T : RattleType) (old new : PixelsMut T.Denot) (pixel : MutBor T.Denot)
    (x : T.Denot)
    (second : List T.Denot) where
  abbrev Held : T.Denot × List T.Denot → SProp 𝓤
  Held held = sep 𝓤 (sem 𝓛 (Ends T of_pixels pixel held.0)) (sem 𝓛 (FinalItems T of_pixels new held.1))

  given_back : (side : Side) → ent 𝓤 (sep 𝓤 (sem 𝓛 (Lends T of_pixels side old (Some pixel) new)) (Held (x, second)))
      (sem 𝓛 (FinalItems T of_pixels old (put_back side (λ _. x) (Some pixel.now) second)))
  given_back Front = at_one 𝓛 Held (λ held. sem 𝓛 (FinalItems T of_pixels old (held.0 ∷ held.1))) (x, second)
  given_back Back = at_one 𝓛 Held (λ held. sem 𝓛 (FinalItems T of_pixels old (held.1 ++ held.0 ∷ []))) (x, second)

module _ {M : Type 1} {𝓤 : Ura M} {𝓛 : Logic 𝓤} {K : Type 0} {Γ : List (Item 𝓤)} {G : Goal 𝓤 𝓛.H} where
  -- Context: [the pixel; how it was drawn; the final values of the iterator that was left].
  pub gives_back : K → (side : Side) (T : RattleType) (κ : Lft) (old new : PixelsMut T.Denot) (pixel : MutBor T.Denot)
      (x : T.Denot) (second : List T.Denot) →
      Step K 𝓛 (‵ (FinalItems T of_pixels old (put_back side (λ _. x) (Some pixel.now) second)) ∷ Γ) G
      (‵ ((MutRef (named 1) κ (param 0 T)).own_val (record pixel { now = x }) (mut_vals pixel)) ∷ ‵
      (Lends T of_pixels side old (Some pixel) new) ∷
      ‵ (FinalItems T of_pixels new second) ∷ Γ) G
  gives_back t side T κ old new pixel x second = step (λ k. fsplit3 t $ drop t $
      use1 𝓛 (‵ (Ends T of_pixels pixel x)) (𝓛.names.obs-res pixel.ghost_name (T.coded.code x)) $ move t
      (2 ∷ 0 ∷ 3 ∷ []) $
      use3 𝓛 (‵ (FinalItems T of_pixels old (put_back side (λ _. x) (Some pixel.now) second)))
      (given_back 𝓛 T old new pixel x second side) $
      move t (1 ∷ []) $ drop t $ k)

module _ {M : Type 1} {𝓤 : Ura M} {𝓛 : Logic 𝓤} {K : Type 0} {Γ : List (Item 𝓤)} {E : Env 𝓤 𝓛.H} {C : Calls 𝓤 𝓛.H}
    {Λ : Loops 𝓤 𝓛.H} {p : Post 𝓤 𝓛.H} {d :
    Place} {rv : RValue} {rest : Code} where
  -- Context: [the pixel; its token; the value to write].
  pub writes_pixel : K → (T : RattleType) (copy : IsCopy T) (κ : Lft) (q : Share) (pixel : MutBor T.Denot)
      (x : T.Denot) →
      let item = param 0 T in let Γ' = λ (i j l m n : Item 𝓤). i ∷ j ∷ l ∷ m ∷ n ∷ Γ in let Pixel = MutRef (named 1) κ
      item in
      Holds (has_ty (layout T) (copy.val x)) × WT (copy.val x) →
      ((i j l m n : Item 𝓤) → Rv K 𝓛 (Γ' i j l m n) E rv (copy.val x)) →
      ((i j l m n : Item 𝓤) → Finds K 𝓛 (Γ' i j l m n) E d (layout T, pixel.ref_ptr.0, pixel.ref_ptr.1)) →
      Step K 𝓛 (‵ (Pixel.own_val (record pixel { now = x }) (mut_vals pixel)) ∷ ‵ (flft κ q) ∷ Γ) (runs C Λ E rest p)
      (‵ (Pixel.own_val pixel (mut_vals pixel)) ∷ ‵ (flft κ q) ∷ ‵ (item.own_val x (copy.val x ∷ [])) ∷ Γ)
      (runs C Λ E (seq (assign d rv) rest) p)
  writes_pixel t T copy κ q pixel x ok reads finds = step
      (λ k. let item = param 0 T in let b = pixel.ref_ptr.0 in let o = pixel.ref_ptr.1 in
      opens_self t tt item κ q pixel (record {
        mir = layout T;
        lowered = copy.val;
        layout_is = refl;
        val_is =
            copy.tells;
      }) $ move t (1 ∷ []) $ drop t $
      use1 𝓛 (‵ (fat full_share (layout T) b o (copy.val pixel.now)))
      (𝓛.laws.raw_at full_share (layout T) b o (copy.val pixel.now)) $
      assigns t (reads _ _ _ _ _) (finds _ _ _ _ _) (store t 0 refl ok) $
      use1 𝓛 (‵ (cell_at full_share item.mir (copy.val x ∷ []) b o))
      (𝓛.laws.at_raw full_share (layout T) b o (copy.val x)) $
      -- Context: [its cell; the open borrow, in three parts; its resources]
      move t (0 ∷ 4 ∷ []) $ closes t tt item x (copy.val x ∷ []) b o $ feq_i t (List Val) (mut_vals pixel)
      (mut_vals pixel) refl $ fjoin3 t $ k)
