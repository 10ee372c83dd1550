-- A replay, call by call: the effect of one more call on the results, the tables and the planes that may be written.
use Rattle.std.proofs.Common.{ℕ, ◌≡◌, ◌+◌, ◌<◌, List, [], ◌∷◌, ◌++◌, length, take, get_or, Some, Any, length-take, refl}
use Rattle.std.proofs.Common.{sym, ◌∙◌, ap, arith}
use Rattle.std.proofs.lemmas.List.{take_more, take-take, get_or-take}
use Rattle.v_frame.specs.Frame.{Tables, KeepsBorders}
use Rattle.v_frame_raster.specs.Pixel.{PixelForm}
use Rattle.v_frame.specs.Replay.{written_plane, WritesPlane, reply_to, answers_to, tables_after}
use Rattle.v_frame.specs.declared.frame.Frame.{Frame}
use Rattle.v_frame.specs.declared.replay.answer.Answer.{Answer}
use Rattle.v_frame.specs.declared.replay.call.VisibleCall.{VisibleCall}

-- An element of the front of a list is an element of the list.
any_of_front : {X : Type 0} (P : X → Type 0) (xs : List X) (n : ℕ) → Any P (take n xs) → Any P xs
any_of_front P xs n h =
    let front : h.0 < n = omega (arith, h.2, length-take n xs) in
    let within : h.0 < length xs = omega (arith, h.2, length-take n xs) in
    (h.0, h.1, within, sym (get_or-take n xs h.0 h.1 front) ∙ h.3, h.4)

module _ {T : Type 0} (form : PixelForm T) where
  answers_to-push : (calls : List (VisibleCall T)) (call : VisibleCall T) (tables : Tables T)
      → answers_to form (calls ++ call ∷ []) tables ≡ answers_to form calls tables ++
      (reply_to form call (tables_after form calls tables)).answer ∷ []
  answers_to-push [] call tables = refl
  answers_to-push (first ∷ calls) call tables =
      ap (λ answers. (reply_to form first tables).answer ∷ answers)
      (answers_to-push calls call (reply_to form first tables).tables)

  tables_after-push : (calls : List (VisibleCall T)) (call : VisibleCall T) (tables : Tables T)
      → tables_after form (calls ++ call ∷ []) tables ≡ (reply_to form call (tables_after form calls tables)).tables
  tables_after-push [] call tables = refl
  tables_after-push (first ∷ calls) call tables = tables_after-push calls call (reply_to form first tables).tables

  -- One more call of a list.
  module _ (calls : List (VisibleCall T)) (i : ℕ) (call : VisibleCall T) (within : i < length calls)
      (here : call ≡ get_or calls i call) where
    pub answers_more : (old now : Tables T) (done : List (Answer T)) (answer : Answer T) → now ≡ tables_after form
        (take i calls) old →
        done ≡ answers_to form (take i calls) old → answer ≡ (reply_to form call now).answer → done ++ answer ∷ [] ≡
        answers_to form (take (i + 1) calls) old
    answers_more old now done answer tables answers is = rw
        (take_more calls i call within, ← here, answers_to-push, ← tables, ← answers, is)

    pub tables_more : (old now new : Tables T) → now ≡ tables_after form (take i calls) old → new ≡
        (reply_to form call now).tables →
        new ≡ tables_after form (take (i + 1) calls) old
    tables_more old now new tables is = rw (take_more calls i call within, ← here, tables_after-push, ← tables) is

module _ {T : Type 0} where
  -- The planes that the first calls may write, and those that one more call may write.
  module _ (calls : List (VisibleCall T)) (i : ℕ) (call : VisibleCall T) (within : i < length calls)
      (here : call ≡ get_or calls i call) where
    pub written_before : (index : ℕ) → WritesPlane (take i calls) index → WritesPlane (take (i + 1) calls) index
    written_before index h =
        let again : take i (take (i + 1) calls) ≡ take i calls = take-take i (i + 1) calls (omega arith) in
        any_of_front (λ (c : VisibleCall T). written_plane c ≡ Some index) (take (i + 1) calls) i (rw again h)

    pub written_now : (index : ℕ) → written_plane call ≡ Some index → WritesPlane (take (i + 1) calls) index
    written_now index h = (
      i,
      call,
      omega (arith, length-take (i + 1) calls),
      get_or-take (i + 1) calls i call (omega arith) ∙ sym here,
      h,
    )

  pub written_in_front : (calls : List (VisibleCall T)) (i index : ℕ) → WritesPlane (take i calls) index → WritesPlane
      calls index
  written_in_front calls i index h = any_of_front (λ (c : VisibleCall T). written_plane c ≡ Some index) calls i h

  -- A border that is kept twice is kept.
  pub keeps_border_twice : (a b c : Frame T) → KeepsBorders a b → KeepsBorders b c → KeepsBorders a c
  keeps_border_twice a b c h k = record {
    subsampling = k.subsampling ∙ h.subsampling;
    bit_depth = k.bit_depth ∙ h.bit_depth;
    y_plane = k.y_plane ∙ h.y_plane;
    u_plane = k.u_plane ∙ h.u_plane;
    v_plane = k.v_plane ∙ h.v_plane;
  }
