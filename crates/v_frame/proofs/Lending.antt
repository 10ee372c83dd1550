-- Loans in a hand-written proof: a plane is lent to an iterator over it, and an iterator is lent to one call. Assumes
-- `Logic`.
-- - lends_plane, plane_back: the plane is lent for a lifetime within κT, and comes back with its final value.
-- - rows_back: the plane comes back with the final values of its rows.
-- - lends_walk, walk_back: an iterator in a local is lent to a call, and comes back as the call left it.
-- - begins: the clauses of `rows_mut` and `pixels_mut` about the iterator that they return.
use Rattle.v_frame_buffer.proofs.Steps.{◌^◌, ◌<◌, Laws, NamedLft, framed, param_laws, refl, tables, ◌⊑◌, ℕ, ◌≡◌, List}
use Rattle.v_frame_buffer.proofs.Steps.{[], ◌∷◌, length, MutBor, Lft, Share, Fml, fat, flent, flft, fsep, full_share}
use Rattle.v_frame_buffer.proofs.Steps.{ent, sep, fact, RattleType, MutRef, mut_vals, mem, named, param, Val, vptr, Ura}
use Rattle.v_frame_buffer.proofs.Steps.{Goal, Item, Seq, Soaks, Step, step, ‵, raw, ◌⊛◌, some, later, ◌$◌, ◌∵◌, !, qed}
use Rattle.v_frame_buffer.proofs.Steps.{await, drop, frame, fsplit, heard, move, pick, split, use1, use2, use3, Logic}
use Rattle.v_frame_buffer.proofs.Steps.{sem, Body, Array, Ty, MachineTables, Running, Typed, Is, Callee, Lifetime}
use Rattle.v_frame_buffer.proofs.Steps.{Place, call, seq, Model, Env, Post, lands, regoal, runs, mean, Opds}
use Rattle.v_frame_buffer.proofs.Steps.{meet_⊑_right, fres, lone, All, fpick}
use denote.Lowered.{Lowered}
use mir.Syntax.{Body as Code, Opd as Operand}
use Rattle.v_frame_plane.specs.contracts.plane.Plane as planes
use Rattle.v_frame_plane.proofs as of_walks
use denote.Lend.{LentAgain, comes_back, lends_again}
use mir.Raw.{raw as raw_ty}
use Rattle.v_frame_plane.specs.PixelsLeft.{LendsPixelsInOrder, LendsPixelsInReverse, pixels_left}
use Rattle.v_frame_raster.specs.Raster.{Raster, table_of}
use Rattle.v_frame_plane.specs.RowsLeft.{LendsRowsInOrder, LendsRowsInReverse, rows_left}
use Rattle.v_frame_raster.specs.Writes.{WritesTable}
use Rattle.v_frame_plane.specs.FinalRows.{WritesEachTable}
use Rattle.v_frame_plane.specs.LendsTable.{EndsWith}
use Rattle.v_frame.proofs.ItemKinds.{Begins, Kept, Kind, LendsBack, Promise, Walk, neither, of_pixels, walk_row}
use Rattle.v_frame_buffer.proofs.Loans.{Back, lft_over, lft_within, share_within}
use Rattle.v_frame_raster.specs.{Table.row_major}
use Rattle.v_frame_plane.specs.{Cursor.PixelsAreCountable}
use Rattle.v_frame_plane.specs.{contracts.plane.Plane.the_row, declared.rows_mut.RowsMut.RowsMut}
use Rattle.v_frame.proofs.CallSteps.{told, asks_that, calls, spelt}
use base.Share
use Rattle.v_frame_buffer.proofs.Loans as loans

module _ {M : Type 1} {𝓤 : Ura M} (𝓛 : Logic 𝓤) (T : RattleType) where
  -- A `&mut` to a plane.
  abbrev pub Owned : Lft → MutBor (Raster T.Denot) → Item 𝓤
  Owned κ plane = ‵ ((MutRef (named 0) κ (the_row (param 0 T))).own_val plane (mut_vals plane))

  -- The part of the plane that its lender keeps.
  abbrev pub Kept_by : (α δ : ℕ) (κ κT : Lft) (q : Share) → MutBor (Raster T.Denot) → Item 𝓤
  Kept_by α δ κ κT q plane = ‵ (LentAgain (the_row (param 0 T)) κ (α ∷ κT) q plane.ghost_name plane.ref_ptr.0
      plane.ref_ptr.1 δ plane.now)

  -- The context beside a lent plane: the tokens of its lifetime and of κT; the lender's part; the way back.
  abbrev pub Loaned : (α δ : ℕ) (κ κT : Lft) (q qT : Share) → MutBor (Raster T.Denot) → List (Item 𝓤) → List (Item 𝓤)
  Loaned α δ κ κT q qT plane Γ = ‵ (flft (α ∷ κT) (share_within (Share.left qT))) ∷ ‵ (flft κT (Share.right qT)) ∷
      Kept_by α δ κ κT q plane ∷
      raw (Back 𝓛 α κT (Share.left qT)) ∷ Γ

module _ {M : Type 1} {𝓤 : Ura M} {𝓛 : Logic 𝓤} {K : Type 0} {Γ : List (Item 𝓤)} {G : Goal 𝓤 𝓛.H} where
  module _ (t : K) (z : Soaks G) (T : RattleType) where
    pub lends_plane : (κ κT : Lft) (q qT : Share) (plane : MutBor (Raster T.Denot))
        → ((α δ : ℕ) → Seq K 𝓛 (Owned 𝓛 T (α ∷ κT) (record plane { ghost_name = δ }) ∷ Loaned 𝓛 T α δ κ κT q qT plane
        Γ) G)
        → Seq K 𝓛 (Owned 𝓛 T κ plane ∷ ‵ (flft κ q) ∷ ‵ (flft κT qT) ∷ Γ) G
    lends_plane κ κT q qT plane k =
        move t (2 ∷ []) $ use1 𝓛 (‵ (flft κT (Share.left qT)) ⊛ ‵ (flft κT (Share.right qT))) (𝓛.lfts.lft_split κT qT)
        $ split t $
        lft_within t z κT (Share.left qT) (λ α. let κw : Lft = α ∷ κT in move t (3 ∷ 4 ∷ []) $
        use2 𝓛 (later (some (λ (δ : ℕ). Owned 𝓛 T κw (record plane { ghost_name = δ }) ⊛ Kept_by 𝓛 T α δ κ κT q plane)))
        (lends_again 𝓛 (the_row (param 0 T)) (named 0) κ κw q plane.ghost_name plane.ref_ptr.0 plane.ref_ptr.1
        (named 0) plane.now) $
        await t z $ pick t (λ δ. split t $ move t (0 ∷ 2 ∷ 4 ∷ 1 ∷ 3 ∷ []) $ k α δ))

    pub plane_back : (α δ : ℕ) (κ κT : Lft) (q qT : Share) (plane : MutBor (Raster T.Denot)) (new : Raster T.Denot)
        → Step K 𝓛 (‵ (flft κT qT) ∷ Owned 𝓛 T κ (record plane { now = new }) ∷ ‵ (flft κ q) ∷ Γ) G
        (‵ (fres δ ((the_row (param 0 T)).coded.code new)) ∷ Loaned 𝓛 T α δ κ κT q qT plane Γ) G
    plane_back α δ κ κT q qT plane new = step (λ k. move t (1 ∷ 4 ∷ []) $ lft_over t z α κT (Share.left qT) $ move t
        (0 ∷ 4 ∷ 2 ∷ []) $
        use3 𝓛 (later (Owned 𝓛 T κ (record plane { now = new }) ⊛ ‵ (flft κ q)))
        (comes_back 𝓛 (the_row (param 0 T)) (named 0) κ (α ∷ κT) q plane.ghost_name plane.ref_ptr.0 plane.ref_ptr.1 δ
        plane.now new) $ await t z $
        split t $ move t (2 ∷ 3 ∷ []) $ use2 𝓛 (‵ (flft κT qT)) (𝓛.lfts.lft_join κT qT) $ k)

  -- Context: [how the plane ends; the tokens of its lifetime and of κT; the lender's part; the way back]
  pub table_back : K → Soaks G → (T : RattleType) (α δ : ℕ) (κ κT : Lft) (q qT : Share)
      (plane : MutBor (Raster T.Denot)) (table : List (List T.Denot)) →
      ((new : Raster T.Denot) → WritesTable plane.now new table → Seq K 𝓛 (‵ (flft κT qT) ∷ Owned 𝓛 T κ
      (record plane { now = new }) ∷ ‵ (flft κ q) ∷ Γ) G)
      → Seq K 𝓛 (‵ (EndsWith (param 0 T) (record plane { ghost_name = δ }) table) ∷ Loaned 𝓛 T α δ κ κT q qT plane Γ) G
  table_back t z T α δ κ κT q qT plane table k =
      fpick t (λ new. fpick t (λ writes. plane_back t z T α δ κ κT q qT plane new $ k new writes))

  module _ (t : K) (z : Soaks G) (R : RattleType) (one : R.mir ≡ lone R.mir ∷ []) (τ : Ty)
      (same : raw_ty τ ≡ raw_ty (lone R.mir)) (κ : Lft) (q : Share) where
    -- Context: [the loan; the tokens of the loan and of κ; the lender's part; the way back]
    pub lends_walk : (x : R.Denot) (b o : ℕ) (v : Val)
        → ((α γ : ℕ) → Seq K 𝓛 (‵ ((MutRef (named 0) (α ∷ κ) R).own_val
        (record { ref_ptr = (b, o); ghost_name = γ; now = x }) (vptr b o ∷ [])) ∷
        ‵ (flft (α ∷ κ) (share_within (Share.left q))) ∷ ‵ (flft κ (Share.right q)) ∷ ‵
        (flent (α ∷ κ) (Body (mem R) b o γ)) ∷
        raw (Back 𝓛 α κ (Share.left q)) ∷ Γ) G)
        → Seq K 𝓛 (‵ (fat full_share τ b o v) ∷ ‵ (R.own_val x (v ∷ [])) ∷ ‵ (flft κ q) ∷ Γ) G
    lends_walk x b o v k =
        move t (2 ∷ []) $ use1 𝓛 (‵ (flft κ (Share.left q)) ⊛ ‵ (flft κ (Share.right q))) (𝓛.lfts.lft_split κ q) $
        split t $ move t (2 ∷ 3 ∷ 0 ∷ []) $
        loans.lends t z R one τ same κ (Share.left q) x b o v (λ α γ. move t (0 ∷ 2 ∷ 4 ∷ 1 ∷ 3 ∷ []) $ k α γ)

    pub walk_back : (α γ b o : ℕ) (new : R.Denot) (v : Val) {said : Fml} → ((u : Val) → Is R new (u ∷ []) → u ≡ v)
        → Step K 𝓛 (‵ (fat full_share τ b o v) ∷ ‵ (R.own_val new (v ∷ [])) ∷ ‵ (flft κ q) ∷ Γ) G
        (‵ (flft (α ∷ κ) (share_within (Share.left q))) ∷ ‵ (flft κ (Share.right q)) ∷ ‵
        (fsep (fres γ (R.coded.code new)) said) ∷
        ‵ (flent (α ∷ κ) (Body (mem R) b o γ)) ∷ raw (Back 𝓛 α κ (Share.left q)) ∷ Γ) G
    walk_back α γ b o new v spelled = step (λ k. move t (0 ∷ 4 ∷ []) $ lft_over t z α κ (Share.left q) $
        -- Context: [the loan is over; both halves of the token of κ; the last value; the lender's part]
        move t (1 ∷ 2 ∷ []) $ use2 𝓛 (‵ (flft κ q)) (𝓛.lfts.lft_join κ q) $ move t (2 ∷ []) $ fsplit t $ move t
        (3 ∷ 4 ∷ 0 ∷ []) $
        loans.comes_back t z R one τ same (α ∷ κ) γ b o new v spelled $ move t (2 ∷ []) $ drop t $ k)

module _ {M : Type 1} {𝓤 : Ura M} (T : RattleType) (loan : MutBor (Raster T.Denot)) where
  -- The clauses of the calls.
  abbrev Said : (k : Kind) → Walk T k → Item 𝓤
  Said of_pixels walk = ‵ (LendsBack T of_pixels loan walk) ⊛
      raw (fact 𝓤 (pixels_left walk ≡ row_major (table_of loan.now))) ⊛
      raw (fact 𝓤 (length (pixels_left walk) < 2 ^ 63)) ⊛ raw (fact 𝓤 (LendsPixelsInOrder T.Denot)) ⊛ raw
      (fact 𝓤 (LendsPixelsInReverse T.Denot))
  Said k walk = ‵ (LendsBack T k loan walk) ⊛
      raw (fact 𝓤 (rows_left walk ≡ table_of loan.now)) ⊛ raw (fact 𝓤 (WritesEachTable loan.now walk)) ⊛
      raw (fact 𝓤 (All (λ row. length row ≡ loan.now.geometry.width) (rows_left walk))) ⊛ raw
      (fact 𝓤 (PixelsAreCountable [] (rows_left walk) [])) ⊛
      raw (fact 𝓤 (length (rows_left walk) < 2 ^ 63)) ⊛ raw (fact 𝓤 (LendsRowsInOrder T.Denot)) ⊛ raw
      (fact 𝓤 (LendsRowsInReverse T.Denot))

  begins : (𝓛 : Logic 𝓤) (k : Kind) (walk : Walk T k) → ent 𝓤 (mean 𝓛 (Said k walk))
      (sep 𝓤 (sem 𝓛 (LendsBack T k loan walk)) (fact 𝓤 (Begins T k loan.now walk)))
  begins 𝓛 of_pixels walk = qed 𝓛 (Said of_pixels walk ∷ []) ∵ split ! $ frame ! $ split ! $ heard ! _
      (λ all. told ! (record { all = all; tells = tt }))
  begins 𝓛 k walk = qed 𝓛 (Said k walk ∷ []) ∵ split ! $ frame ! $ split ! $ heard ! _ (λ all. split ! $
      heard ! _ (λ written. split ! $ heard ! _ (λ wide. told ! (record { all = all; tells = (written, wide) }))))

module _ {M : Type 1} {𝓤 : Ura M} (𝓛 : Logic 𝓤) (𝓜 : Model 𝓤 𝓛.H) (𝓡 : Running 𝓤 𝓛.H 𝓜) (T : RattleType)
    (laws : Laws T) where
  abbrev 𝓣 : MachineTables 𝓤 𝓛.H 𝓜
  𝓣 = tables 𝓤 𝓛.H 𝓜 𝓡 𝓡.env

  abbrev pub opens : Kind → Promise 𝓤
  opens of_pixels = (planes.pixels_mut.ended T, planes.pixels_mut.clauses T 𝓛 𝓜.mem 𝓡.returns)
  opens _ = (planes.rows_mut.ended T, planes.rows_mut.clauses T 𝓛 𝓜.mem 𝓡.returns)

  abbrev pub lowers : (k : Kind) (ℓ : NamedLft) → Lowered (walk_row k ℓ (param 0 T))
  lowers of_pixels ℓ = of_walks.pixels_mut.PixelsMut.TheLaws.lowers ℓ (param 0 T) (param_laws 0 T laws)
  lowers _ ℓ = of_walks.rows_mut.RowsMut.TheLaws.lowers ℓ (param 0 T) (param_laws 0 T laws)

  abbrev walk_laws : (k : Kind) (ℓ : NamedLft) → Laws (walk_row k ℓ (param 0 T))
  walk_laws of_pixels ℓ = of_walks.pixels_mut.PixelsMut.TheLaws.the_row_laws ℓ (param 0 T) (param_laws 0 T laws)
  walk_laws _ ℓ = of_walks.rows_mut.RowsMut.TheLaws.the_row_laws ℓ (param 0 T) (param_laws 0 T laws)

  abbrev Begun : Kind → Type 2
  Begun neither = Unit {2}
  Begun k = (K : Type 0) (Γ : List (Item 𝓤)) (E : Env 𝓤 𝓛.H) (p : Post 𝓤 𝓛.H) (f : Callee) (xs : List Operand)
      (d : Place) (rest : Code) → K →
      Kept 𝓛 𝓜 𝓡 (opens k) f →
      (m : Lifetime) (κ κT : Lft) (q qT : Share) (plane : MutBor (Raster T.Denot)) → κT ⊑ T.lives →
      ((i j l : Item 𝓤) → Opds K 𝓛 (i ∷ j ∷ l ∷ Γ) E xs (mut_vals plane)) →
      ((α δ : ℕ) (walk : Walk T k) → let ℓ : NamedLft = record { mir = m; lft = α ∷ κT } in let R = walk_row k ℓ
      (param 0 T) in
      let u = (lowers k ℓ).lowered walk in Begins T k plane.now walk → Typed R.mir (u ∷ []) →
      Seq K 𝓛 (‵ (R.own_val walk (u ∷ [])) ∷ ‵ (LendsBack T k (record plane { ghost_name = δ }) walk) ∷
      Loaned 𝓛 T α δ κ κT q qT plane Γ) (lands 𝓣.C 𝓣.Λ E d u rest p))
      → Seq K 𝓛 (Owned 𝓛 T κ plane ∷ ‵ (flft κ q) ∷ ‵ (flft κT qT) ∷ Γ) (runs 𝓣.C 𝓣.Λ E (seq (call f xs d) rest) p)

  -- The plane is lent to the iterator that a call returns.
  pub begins_walk : (k : Kind) → Begun k
  begins_walk neither = tt
  begins_walk k = λ K Γ E p f xs d rest t opened m κ κT q qT plane inT os go. lends_plane t tt T κ κT q qT plane (λ α δ.
      let κw = α ∷ κT in let loan = record plane { ghost_name = δ } in
      calls t (1 ∷ 2 ∷ 0 ∷ []) (framed 𝓤 𝓛.H 𝓜 𝓣) (opens k).0 (opens k).1 opened (
        (
          (κw, (κT, tt)),
          (share_within (Share.left qT), (Share.right qT, tt)),
          (meet_⊑_right (α ∷ []) κT, tt),
          (loan, tt),
          (mut_vals plane, tt),
        ),
        tt,
      )
      (asks_that 𝓤 inT) refl (os _ _ _) (λ w ws. ‵ (LendsBack T k loan w) ∷ raw
      (fact 𝓤 (Begins T k plane.now w)) ∷ [])
      (λ w ws. begins T loan 𝓛 k w) (λ v w ws. let ℓ : NamedLft = record { mir = m; lft = κw } in let low =
      (lowers k ℓ).lowered in
      spelt t (walk_row k ℓ (param 0 T)) low (lowers k ℓ).val_is w v
      (λ e is. regoal t (λ (u : Val). lands 𝓣.C 𝓣.Λ E d u rest p) e refl $
      move t (2 ∷ 5 ∷ []) $ heard t _ (λ begun. drop t $ go α δ w begun
      (((walk_laws k ℓ).lawful 𝓛).typed w (low w ∷ []) is)))))
