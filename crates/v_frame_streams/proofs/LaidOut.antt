-- The tables of a frame are those of its pixels in the order of a layout.
use Rattle.std.proofs.Common.{ℕ, ◌≡◌, ◌∙◌, ◌+◌, ◌*◌, ◌++◌, All, Bool, true, false, List, [], ◌∷◌, ap, arith, drop, length, refl, subst, sym, take}
use Rattle.std.proofs.Common.{length-append, append-nil}
use Rattle.std.specs.Prelude.{if◌then◌else◌, option_map, IfSome, Option, Some, None}
use Rattle.std.proofs.lemmas.List.{take_at, drop_at}
use Rattle.std.proofs.lemmas.List.Elements.{All-head, All-tail}
use Rattle.v_frame.specs.Prelude.{cut_rows, height_of, row_major, width_of, PixelForm, Table, Tables}
use Rattle.v_frame_ops.specs.Change.{combined}
use Rattle.v_frame_planar.specs.Planar.{byte_count, size_of, sizes_of}
use Rattle.v_frame_raster.proofs.tables.CutRows.{cut_again}
use Rattle.v_frame_semi_planar.specs.Format.{begins_with_v, unused_bits}
use Rattle.v_frame_semi_planar.specs.Interleaved.{interleaved}
use Rattle.v_frame_semi_planar.specs.SemiPlanar.{semi_planar_bytes, semi_planar_pixels}
use Rattle.v_frame_semi_planar.specs.declared.format.SemiPlanarFormat.{SemiPlanarFormat}
use Rattle.v_frame_semi_planar.proofs.CombinedLists.{length-row_major}
use Rattle.v_frame_semi_planar.proofs.Interleaving.{pixels_by_turns}
use Rattle.v_frame_semi_planar.proofs.Stored.{length-stored}
use Rattle.v_frame_streams.specs.Pictures.{firsts, seconds, tables_by_turns, IsEven}

module _ {T : Type 0} where
  firsts_of_row : (us vs rest : List T) → length us ≡ length vs → firsts (interleaved us vs ++ rest) ≡ us ++ firsts rest
  firsts_of_row [] [] rest same = refl
  firsts_of_row (u ∷ us) (v ∷ vs) rest same = ap (λ (l : List T). u ∷ l) (firsts_of_row us vs rest (omega arith))
  firsts_of_row [] (v ∷ vs) rest same = absurd (omega arith)
  firsts_of_row (u ∷ us) [] rest same = absurd (omega arith)

  seconds_of_row : (us vs rest : List T) → length us ≡ length vs → seconds (interleaved us vs ++ rest) ≡ vs ++ seconds rest
  seconds_of_row [] [] rest same = refl
  seconds_of_row (u ∷ us) (v ∷ vs) rest same = ap (λ (l : List T). v ∷ l) (seconds_of_row us vs rest (omega arith))
  seconds_of_row [] (v ∷ vs) rest same = absurd (omega arith)
  seconds_of_row (u ∷ us) [] rest same = absurd (omega arith)

  module _ (width : ℕ) where
    abbrev Wide : List T → Type 0
    Wide row = length row ≡ width

    firsts_of : (us vs : Table T) → All Wide us → All Wide vs → length us ≡ length vs
        → firsts (row_major (combined interleaved us vs)) ≡ row_major us
    firsts_of [] [] wide also same = refl
    firsts_of (u ∷ us) (v ∷ vs) wide also same =
        firsts_of_row u v (row_major (combined interleaved us vs)) (All-head Wide u us wide ∙ sym (All-head Wide v vs also))
        ∙ ap (λ (l : List T). u ++ l) (firsts_of us vs (All-tail Wide u us wide) (All-tail Wide v vs also) (omega arith))
    firsts_of [] (v ∷ vs) wide also same = absurd (omega arith)
    firsts_of (u ∷ us) [] wide also same = absurd (omega arith)

    seconds_of : (us vs : Table T) → All Wide us → All Wide vs → length us ≡ length vs
        → seconds (row_major (combined interleaved us vs)) ≡ row_major vs
    seconds_of [] [] wide also same = refl
    seconds_of (u ∷ us) (v ∷ vs) wide also same =
        seconds_of_row u v (row_major (combined interleaved us vs)) (All-head Wide u us wide ∙ sym (All-head Wide v vs also))
        ∙ ap (λ (l : List T). v ++ l) (seconds_of us vs (All-tail Wide u us wide) (All-tail Wide v vs also) (omega arith))
    seconds_of [] (v ∷ vs) wide also same = absurd (omega arith)
    seconds_of (u ∷ us) [] wide also same = absurd (omega arith)

  -- The pixels of a table with rows of equal length, cut into rows again.
  cut_even : (table : Table T) → IsEven table → cut_rows (width_of table) (height_of table) (row_major table) ≡ table
  cut_even table even = cut_again (width_of table) table table refl even

  abbrev turns : Bool → Table T → Table T → List T
  turns v_first u v = row_major (if v_first then combined interleaved v u else combined interleaved u v)

  abbrev u_in : Bool → List T → List T
  u_in v_first pixels = if v_first then seconds pixels else firsts pixels

  abbrev v_in : Bool → List T → List T
  v_in v_first pixels = if v_first then firsts pixels else seconds pixels

  module _ (u v : Table T) (even : IsEven u) (also : IsEven v) (same : size_of u ≡ size_of v) where
    also_wide : All (λ row. length row ≡ width_of u) v
    also_wide = subst (λ (n : ℕ). All (λ (row : List T). length row ≡ n) v) (sym (ap (λ (s : ℕ × ℕ). s.0) same)) also

    high : length u ≡ length v
    high = ap (λ (s : ℕ × ℕ). s.1) same

    u_again : (v_first : Bool) → cut_rows (width_of u) (height_of u) (u_in v_first (turns v_first u v)) ≡ u
    u_again true = ap (cut_rows (width_of u) (height_of u)) (seconds_of (width_of u) v u also_wide even (sym high)) ∙ cut_even u even
    u_again false = ap (cut_rows (width_of u) (height_of u)) (firsts_of (width_of u) u v even also_wide high) ∙ cut_even u even

    v_again : (v_first : Bool) → cut_rows (width_of v) (height_of v) (v_in v_first (turns v_first u v)) ≡ v
    v_again true = ap (cut_rows (width_of v) (height_of v)) (firsts_of (width_of u) v u also_wide even (sym high)) ∙ cut_even v also
    v_again false = ap (cut_rows (width_of v) (height_of v)) (seconds_of (width_of u) u v even also_wide high) ∙ cut_even v also

    many : (v_first : Bool) → length (turns v_first u v) ≡ width_of u * height_of u + width_of v * height_of v
    many true = pixels_by_turns (width_of u) v u also_wide even (sym high)
        ∙ omega (arith, length-row_major (width_of u) u even, length-row_major (width_of v) v also)
    many false = pixels_by_turns (width_of u) u v even also_wide high
        ∙ omega (arith, length-row_major (width_of u) u even, length-row_major (width_of v) v also)

  abbrev made : Table T → Option (Table T) → Option (Table T) → Tables T
  made y u v = record { y = y; u = u; v = v }

  module _ (layout : SemiPlanarFormat) (y : Table T) (even : IsEven y) where
    front : (rest : List T) → take (width_of y * height_of y) (row_major y ++ rest) ≡ row_major y
    front rest = take_at (row_major y) rest (width_of y * height_of y) (omega (arith, length-row_major (width_of y) y even))

    behind : (rest : List T) → drop (width_of y * height_of y) (row_major y ++ rest) ≡ rest
    behind rest = drop_at (row_major y) rest (width_of y * height_of y) (omega (arith, length-row_major (width_of y) y even))

    -- The tables of the pixels of a frame are the tables of the frame.
    pub shown_again : (u v : Option (Table T)) → IfSome u IsEven → IfSome v IsEven
        → option_map size_of u ≡ option_map size_of v
        → tables_by_turns (begins_with_v layout) (sizes_of (made y u v)) (semi_planar_pixels layout (made y u v)) ≡ made y u v
    shown_again None None even_u even_v same =
        ap (λ (table : Table T). made table None None)
        (ap (cut_rows (width_of y) (height_of y)) (front []) ∙ cut_even y even)
    shown_again (Some u) (Some v) even_u even_v same =
        let first = begins_with_v layout in
        let rest = turns first u v in
        let one : size_of u ≡ size_of v = cc in
        let of_y = ap (cut_rows (width_of y) (height_of y)) (front rest) ∙ cut_even y even in
        let of_u = ap (λ (l : List T). cut_rows (width_of u) (height_of u) (u_in first l)) (behind rest)
        ∙ u_again u v even_u even_v one first in
        let of_v = ap (λ (l : List T). cut_rows (width_of v) (height_of v) (v_in first l)) (behind rest)
        ∙ v_again u v even_u even_v one first in
        let pixels = row_major y ++ rest in
        let chroma = drop (width_of y * height_of y) pixels in
        ap (λ (t : Table T). made t (Some (cut_rows (width_of u) (height_of u) (u_in first chroma)))
        (Some (cut_rows (width_of v) (height_of v) (v_in first chroma)))) of_y
        ∙ ap (λ (t : Table T). made y (Some t) (Some (cut_rows (width_of v) (height_of v) (v_in first chroma)))) of_u
        ∙ ap (λ (t : Table T). made y (Some u) (Some t)) of_v
    shown_again None (Some v) even_u even_v same = cc
    shown_again (Some u) None even_u even_v same = cc

    -- The number of bytes of the frame.
    pub as_many_bytes : (form : PixelForm T) (u v : Option (Table T)) → IfSome u IsEven → IfSome v IsEven
        → option_map size_of u ≡ option_map size_of v
        → length (semi_planar_bytes form layout (made y u v)) ≡ byte_count form.size (sizes_of (made y u v))
    as_many_bytes form None None even_u even_v same =
        length-stored form (unused_bits layout) (row_major y ++ [])
        ∙ ap (λ (l : List T). form.size * length l) (append-nil (row_major y))
        ∙ ap (λ (n : ℕ). form.size * n) (length-row_major (width_of y) y even) ∙ omega arith
    as_many_bytes form (Some u) (Some v) even_u even_v same =
        let one : size_of u ≡ size_of v = cc in
        let rest = turns (begins_with_v layout) u v in
        length-stored form (unused_bits layout) (row_major y ++ rest)
        ∙ ap (λ (n : ℕ). form.size * n) (length-append (row_major y) rest)
        ∙ ap (λ (n : ℕ). form.size * (n + length rest)) (length-row_major (width_of y) y even)
        ∙ ap (λ (n : ℕ). form.size * (height_of y * width_of y + n)) (many u v even_u even_v one (begins_with_v layout))
        ∙ omega arith
    as_many_bytes form None (Some v) even_u even_v same = cc
    as_many_bytes form (Some u) None even_u even_v same = cc
