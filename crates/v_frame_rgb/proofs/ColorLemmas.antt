-- Rows of colors, pixel by pixel, and pictures of such rows.
use Rattle.std.proofs.Common.{ℕ, zero, suc, ◌≡◌, ◌+◌, ◌*◌, ◌≤◌, List, [], ◌∷◌, length, take}
use Rattle.std.proofs.Common.{flat_map, Some, slice_get, refl, ◌∙◌, ap, arith, append-nil}
use Rattle.std.proofs.lemmas.Grind.{flat_map-append}
use Rattle.std.proofs.lemmas.List.{take_more}
use Rattle.std.proofs.lemmas.Option.{get_or_from_slice_get, slice_get_within, same_Some}
use Rattle.std.proofs.lemmas.Slice.{take-put_mid}
use Rattle.v_frame_raster.specs.Table.{Table}
use Rattle.v_frame_rgb.specs.Colors.{colors_by, color_rows_by}
use Rattle.v_frame_rgb.specs.declared.color.Color.{Color}
use borrow.Rule.Slice.PartMut.{put_mid}

-- The loop step of a loop that writes the bytes of one item after the other, each with `size` bytes.
pub one_more_item : {X : Type 0} (make : X → List ℕ) (size : ℕ) → ((c : X) → length (make c) ≡ size)
    → (items : List X) (out part : List ℕ) (x : ℕ) (c : X)
    → slice_get items x ≡ Some c → part ≡ make c → size * x ≤ length out
    → take (size * x) out ≡ flat_map make (take x items)
    → take (size * (x + 1)) (put_mid (size * x) size out part) ≡ flat_map make (take (x + 1) items)
one_more_item make size as_long items out part x c is bytes room so_far =
    let long : length part ≡ size = ap length bytes ∙ as_long c in
    let on : size * (x + 1) ≡ size * x + length part = omega (arith, long) in
    let more = take_more items x c (slice_get_within items x c is) in
    rw (
      take-put_mid (size * x) size out part (size * (x + 1)) on room,
      so_far,
      more,
      get_or_from_slice_get items x c c is,
      flat_map-append make (take x items) (c ∷ []),
      append-nil (make c),
      bytes,
    )

module _ {T : Type 0} (color : T → T → T → Color) where
  -- The color of a pixel is computed from its three samples.
  pub slice_get-colors_by : (ys us vs : List T) (x : ℕ) (y u v : T) → slice_get ys x ≡ Some y → slice_get us x ≡ Some u
      → slice_get vs x ≡ Some v → slice_get (colors_by color ys us vs) x ≡ Some (color y u v)
  slice_get-colors_by (y' ∷ ys) (u' ∷ us) (v' ∷ vs) zero y u v is is1 is2 =
      rw (same_Some y' y is, same_Some u' u is1, same_Some v' v is2)
  slice_get-colors_by (y' ∷ ys) (u' ∷ us) (v' ∷ vs) (suc x) y u v is is1 is2 =
      slice_get-colors_by ys us vs x y u v is is1 is2
  slice_get-colors_by ys us vs x y u v is is1 is2 = cc

  pub length-colors_by : (ys us vs : List T) → length us ≡ length ys → length vs ≡ length ys
      → length (colors_by color ys us vs) ≡ length ys
  length-colors_by [] us vs long long1 = refl
  length-colors_by (y ∷ ys) (u ∷ us) (v ∷ vs) long long1 =
      ap suc (length-colors_by ys us vs (omega arith) (omega arith))
  length-colors_by ys us vs long long1 = absurd (omega arith)

  module _ (bytes_of : Color → List ℕ) where
    pub slice_get-color_rows_by : (y_rows u_rows v_rows : Table T) (k : ℕ) (ys us vs : List T)
        → slice_get y_rows k ≡ Some ys → slice_get u_rows k ≡ Some us → slice_get v_rows k ≡ Some vs
        → slice_get (color_rows_by color bytes_of y_rows u_rows v_rows) k
        ≡ Some (flat_map bytes_of (colors_by color ys us vs))
    slice_get-color_rows_by (ys' ∷ y_rows) (us' ∷ u_rows) (vs' ∷ v_rows) zero ys us vs is is1 is2 =
        rw (same_Some ys' ys is, same_Some us' us is1, same_Some vs' vs is2)
    slice_get-color_rows_by (ys' ∷ y_rows) (us' ∷ u_rows) (vs' ∷ v_rows) (suc k) ys us vs is is1 is2 =
        slice_get-color_rows_by y_rows u_rows v_rows k ys us vs is is1 is2
    slice_get-color_rows_by y_rows u_rows v_rows k ys us vs is is1 is2 = cc

    pub length-color_rows_by : (y_rows u_rows v_rows : Table T) → length u_rows ≡ length y_rows
        → length v_rows ≡ length y_rows
        → length (color_rows_by color bytes_of y_rows u_rows v_rows) ≡ length y_rows
    length-color_rows_by [] u_rows v_rows long long1 = refl
    length-color_rows_by (ys ∷ y_rows) (us ∷ u_rows) (vs ∷ v_rows) long long1 =
        ap suc (length-color_rows_by y_rows u_rows v_rows (omega arith) (omega arith))
    length-color_rows_by y_rows u_rows v_rows long long1 = absurd (omega arith)
