-- The pieces of a buffer are determined by its entries.
use Rattle.std.proofs.Common.{ℕ, zero, suc, ◌≡◌, ◌+◌, ◌<◌, List, [], ◌∷◌, take, drop, Some, None, slice_get, refl, sym}
use Rattle.std.proofs.Common.{◌∙◌, ap, arith}
use Rattle.v_frame_raster.specs.Geometry.{Mark, Border, Visible, Piece, cutting_plan, mark_at}
use Rattle.v_frame_raster.specs.Raster.{Raster, cut_by, if_visible, if_border, visible_pieces, border_pieces}
use Rattle.v_frame_raster.specs.RasterLaws.{IsMadeOfEntries}
use Rattle.v_frame_raster.proofs.tables.Lists.{slice_get-drop}
use Rattle.v_frame_raster.proofs.tables.Marks.{mark_at-here, mark_at-past}

module _ {T : Type 0} where
  -- Lists that agree at the first n indices begin with the same n elements.
  pub same_front : (n : ℕ) (xs ys : List T) → ((i : ℕ) → i < n → slice_get xs i ≡ slice_get ys i) → take n xs ≡ take n
      ys
  same_front zero xs ys h = refl
  same_front (suc n) [] [] h = refl
  same_front (suc n) [] (y ∷ ys) h = let e : None ≡ Some y = h 0 (omega arith) in cc
  same_front (suc n) (x ∷ xs) [] h = let e : Some x ≡ None = h 0 (omega arith) in cc
  same_front (suc n) (x ∷ xs) (y ∷ ys) h =
      let e : Some x ≡ Some y = h 0 (omega arith) in
      let rest = same_front n xs ys (λ i below. h (suc i) (omega arith)) in
      cc

  -- Two lists agree at every index to which a plan gives this mark.
  abbrev Agree : Mark → List Piece → List T → List T → Type 0
  Agree mark plan xs ys = (place : ℕ) → mark_at plan place ≡ Some mark → slice_get xs place ≡ slice_get ys place

  agree_in_rest : (mark : Mark) (piece : Piece) (plan : List Piece) (xs ys : List T) → Agree mark (piece ∷ plan) xs ys →
      Agree mark plan (drop piece.entries xs) (drop piece.entries ys)
  agree_in_rest mark piece plan xs ys h = λ place is.
      slice_get-drop piece.entries xs place ∙ h (piece.entries + place) (mark_at-past piece plan place ∙ is)
      ∙ sym (slice_get-drop piece.entries ys place)

  agree_in_first : (piece : Piece) (plan : List Piece) (xs ys : List T) → Agree piece.mark (piece ∷ plan) xs ys
      → take piece.entries xs ≡ take piece.entries ys
  agree_in_first piece plan xs ys h = same_front piece.entries xs ys (λ i below. h i (mark_at-here piece plan i below))

  same_visible : (mark : Mark) (n : ℕ) (plan : List Piece) (xs ys : List T)
      → Agree Visible (record { mark = mark; entries = n } ∷ plan) xs ys
      → if_visible mark (take n xs) ≡ if_visible mark (take n ys)
  same_visible Border n plan xs ys h = refl
  same_visible Visible n plan xs ys h =
      ap (λ row. row ∷ []) (agree_in_first (record { mark = Visible; entries = n }) plan xs ys h)

  same_border : (mark : Mark) (n : ℕ) (plan : List Piece) (xs ys : List T)
      → Agree Border (record { mark = mark; entries = n } ∷ plan) xs ys
      → if_border mark (take n xs) ≡ if_border mark (take n ys)
  same_border Border n plan xs ys h =
      ap (λ row. row ∷ []) (agree_in_first (record { mark = Border; entries = n }) plan xs ys h)
  same_border Visible n plan xs ys h = refl

  visible_alike : (plan : List Piece) (xs ys : List T) → Agree Visible plan xs ys
      → visible_pieces (cut_by plan xs) ≡ visible_pieces (cut_by plan ys)
  visible_alike [] xs ys h = refl
  visible_alike (piece ∷ plan) xs ys h =
      let n = piece.entries in
      rw (
        same_visible piece.mark n plan xs ys h,
        visible_alike plan (drop n xs) (drop n ys) (agree_in_rest Visible piece plan xs ys h),
      ) refl

  border_alike : (plan : List Piece) (xs ys : List T) → Agree Border plan xs ys
      → border_pieces (cut_by plan xs) ≡ border_pieces (cut_by plan ys)
  border_alike [] xs ys h = refl
  border_alike (piece ∷ plan) xs ys h =
      let n = piece.entries in
      rw (
        same_border piece.mark n plan xs ys h,
        border_alike plan (drop n xs) (drop n ys) (agree_in_rest Border piece plan xs ys h),
      ) refl

  pub made_of_entries : (p q : Raster T) → p.geometry ≡ q.geometry → IsMadeOfEntries p q
  made_of_entries p q geometry =
      record {
        table = λ agree. rw (← geometry) (visible_alike (cutting_plan p.geometry) p.buffer q.buffer agree);
        border = λ agree. rw (← geometry) (border_alike (cutting_plan p.geometry) p.buffer q.buffer agree);
      }
