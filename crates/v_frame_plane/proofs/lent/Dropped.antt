-- A function that executes nothing and states the effect of dropping an iterator. The laws of rows and of pixels are
-- instances. Assumes `Logic`.
use Rattle.v_frame_buffer.proofs.Steps.{[], ◌∷◌, List, refl, proved, flft, ftrue, emp, ent, sep, fact, ◌⊑◌, tables, Val}
use Rattle.v_frame_buffer.proofs.Steps.{Stays, Clauses, ends_at, alloc_all, free_all, look_at, pass_all, sets, ‵, raw}
use Rattle.v_frame_buffer.proofs.Steps.{◌⊛◌, ◌$◌, ◌∵◌, !, qed, done, drop, feq_i, join, move, nothing, split, suffices}
use Rattle.v_frame_buffer.proofs.Steps.{use0, enter, of_opd, returns, sem, Fml, Logic, RattleType, Ura, MachineTables}
use Rattle.v_frame_buffer.proofs.Steps.{Running, closing, Meets, Callee, Fn, assign, local, opd_unit, place, return}
use Rattle.v_frame_buffer.proofs.Steps.{rv_opd, seq, ty_unit, value_local, vunit, Model, Closed, unit_lit}
use Rattle.v_frame_plane.specs.contracts.laws.dropped_rows_keep_their_pixels as rows

abbrev code : Fn
code = record {
  lifetimes = 0;
  outlives = [];
  ty_params = [];
  givens = 0;
  params = 0;
  body = seq (assign (place 0 []) (rv_opd opd_unit)) return;
  locals = local ty_unit value_local ∷ [];
}

module _ {M : Type 1} {𝓤 : Ura M} (𝓛 : Logic 𝓤) (𝓜 : Model 𝓤 𝓛.H) (𝓡 : Running 𝓤 𝓛.H 𝓜) (T : RattleType) (law : Fml)
  where
    abbrev 𝓣 : MachineTables 𝓤 𝓛.H 𝓜
    𝓣 = tables 𝓤 𝓛.H 𝓜 𝓡 𝓡.env

    abbrev clauses : Clauses 𝓤 (rows.ended T)
    clauses = λ κs a. record {
      ghost = Unit {0};
      requires = λ _. sep 𝓤 (fact 𝓤 (κs.0 ⊑ T.lives)) (sem 𝓛 ftrue);
      ensures = λ _ r end. sem 𝓛 law;
    }

    pub meets : (key : Callee) → Closed 𝓤 𝓛.H 𝓣.C 𝓣.Λ key code → ent 𝓤 (emp 𝓤) (sem 𝓛 law) →
        Meets 𝓛 (rows.signature T) (𝓣.C key) (closing 𝓛 (rows.ended T) clauses)
    meets key closed holds = let En = rows.ended T in let stayed : Stays En.signature.params En.kept = tt in
        proved 𝓛 En stayed clauses 𝓜 𝓡 tt key code closed (λ κs. tt) (λ κs. tt) (λ κs qs bounds a g are.
        let κT = κs.0 in let qT = qs.0 in
        qed 𝓛 (((‵ (flft κT qT) ⊛ ‵ ftrue) ⊛ ‵ ftrue) ∷ (raw (fact 𝓤 (κT ⊑ T.lives)) ⊛ ‵ ftrue) ∷ []) ∵
        move ! (1 ∷ []) $ drop ! $ split ! $ move ! (1 ∷ []) $ drop ! $ split ! $
        enter ! _ _ _ _ _ $ alloc_all ! (λ l. pass_all ! refl tt $
        sets ! (of_opd ! (unit_lit !)) refl (tt, tt) $ returns ! (look_at ! 0 refl) $ free_all ! refl $
        -- Context: [the token of κT; nothing]
        move ! (1 ∷ []) $ drop ! $ use0 𝓛 (‵ law) holds $
        suffices ! _ (ends_at 𝓛 En stayed clauses ((κs, qs, bounds, a, tt), g) vunit tt tt tt) $
        nothing ! $ feq_i ! (List Val) (vunit ∷ []) (vunit ∷ []) refl $ move ! (1 ∷ 0 ∷ []) $ join ! $ nothing ! $ move
        !
        (3 ∷ 0 ∷ []) $ join ! $ join ! $
        join ! $ done !))
