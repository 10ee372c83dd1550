-- A buffer whose border is filled from the front, part by part.
use Rattle.std.proofs.Common.{ℕ, ◌≡◌, ◌+◌, ◌-◌, ◌*◌, ◌/◌, ◌%◌, ◌<◌, ◌≤◌, List, length, drop, replicate, Some, slice_get}
use Rattle.std.proofs.Common.{refl, sym, ◌∙◌, arith, div-add-mod', mod-lt, mul-le-mul_right}
use Rattle.v_frame.specs.Prelude.{Geometry, stride_of, alloc_height_of, alloc_size_of, raster, filled, Mark, Border}
use Rattle.v_frame.specs.Prelude.{Visible, cutting_plan, mark_at, HasMarks, AgreeAt}
use Rattle.std.proofs.{lemmas.List.get_or-replicate, lemmas.List.length-replicate, lemmas.List.take_at}
use Rattle.std.proofs.{lemmas.Nat.div_below, lemmas.Nat.le-div, lemmas.Option.slice_get_read}
use Rattle.std.specs.{List.refill}

-- The indices from one up to another have this mark.
abbrev pub AreMarked : Geometry → Mark → ℕ → ℕ → Type 0
AreMarked g mark start end = (place : ℕ) → start ≤ place → place < end → mark_at (cutting_plan g) place ≡ Some mark

module _ {T : Type 0} where
  -- The visible entries are unchanged, and the border entries before `end` have the value.
  pub record IsFilledUpTo (g : Geometry) (value : T) (end : ℕ) (old new : List T) : Type 0 where
    pub visible : (place : ℕ) → mark_at (cutting_plan g) place ≡ Some Visible → slice_get new place ≡ slice_get old
        place
    pub border : (place : ℕ) → place < end → mark_at (cutting_plan g) place ≡ Some Border → slice_get new place ≡ Some
        value

  module _ (g : Geometry) (value : T) (old : List T) where
    pub nothing_filled : IsFilledUpTo g value 0 old old
    nothing_filled = record { visible = λ place h. refl; border = λ place below h. absurd (omega arith) }

    -- The visible entries are skipped, and one more part of the border is filled.
    pub part_filled : (start from end : ℕ) (xs ys : List T) → AreMarked g Visible start from → AreMarked g Border from
        end → IsFilledUpTo g value start old xs
        → ((place : ℕ) → place < from → slice_get ys place ≡ slice_get xs place)
        → ((place : ℕ) → from ≤ place → place < end → slice_get ys place ≡ Some value)
        → ((place : ℕ) → end ≤ place → slice_get ys place ≡ slice_get xs place) → IsFilledUpTo g value end old ys
    part_filled start from end xs ys passed marks so_far before inside behind = record {
      visible = λ place h. grind (arith, marks place, before place, behind place, so_far.visible place);
      border = λ place below h. grind (arith, passed place, before place, inside place, so_far.border place);
    }

module _ (g : Geometry) (marks : HasMarks g) where
  -- The indices of whole rows are those of the columns in them.
  pub marks_of_rows : (first end : ℕ) → ((row column : ℕ) → first ≤ row → row < end → column < stride_of g →
      mark_at (cutting_plan g) (row * stride_of g + column) ≡ Some Border)
      → 0 < stride_of g → AreMarked g Border (first * stride_of g) (end * stride_of g)
  marks_of_rows first end marked wide place from to =
      rw (← div-add-mod' place (stride_of g)) (marked (place / stride_of g) (place % stride_of g)
      (le-div first place (stride_of g) wide from)
      (div_below place (stride_of g) end wide to) (mod-lt place wide))

  -- The three parts of a row that crosses the visible rectangle and begins at a given index.
  module _ (y start : ℕ) (high : y < g.height) (begins : start ≡ (g.pad_top + y) * stride_of g) where
    pub marks_left : AreMarked g Border start (start + g.pad_left)
    marks_left place from to =
        let at : place ≡ (g.pad_top + y) * stride_of g + (place - start) = omega (arith, begins) in
        rw at (marks.left y (place - start) high (omega arith))

    pub marks_visible : AreMarked g Visible (start + g.pad_left) (start + (g.pad_left + g.width))
    marks_visible place from to =
        let at : place ≡ (g.pad_top + y) * stride_of g + (g.pad_left + (place - (start + g.pad_left))) = omega
        (arith, begins) in
        rw at (marks.visible (place - (start + g.pad_left)) y (omega arith) high)

    pub marks_right : AreMarked g Border (start + (g.pad_left + g.width)) (start + stride_of g)
    marks_right place from to =
        let at : place ≡ (g.pad_top + y) * stride_of g + (place - start) = omega (arith, begins) in
        rw at (marks.right y (place - start) high (omega arith) (omega arith))

  -- Each index with a mark lies before the end of the buffer.
  pub within_buffer : (place : ℕ) (mark : Mark) → mark_at (cutting_plan g) place ≡ Some mark → place < alloc_size_of g
  within_buffer place mark h = grind (arith, marks.past place)

  -- The border of a buffer is that of a buffer filled with a value if each of its border entries has this value.
  pub agrees_with_filled : {T : Type 0} (value : T) (new : List T) →
      ((place : ℕ) → mark_at (cutting_plan g) place ≡ Some Border →
      slice_get new place ≡ Some value) → AgreeAt Border (raster g new) (filled value g)
  agrees_with_filled value new border place h =
      let n = alloc_size_of g in let within = within_buffer place Border h in let held = sym
      (get_or-replicate n place value value within) in
      border place h ∙ sym (slice_get_read (replicate n value) n place value (sym (length-replicate n value)) within
      held)

-- A list that is put back with its own length.
pub put_back : {T : Type 0} (xs ws : List T) → length ws ≡ length xs → refill (length xs) xs ws ≡ ws
put_back xs ws h = take_at ws (drop (length ws) xs) (length xs) h

-- The rows lie in the buffer.
pub row_within : (g : Geometry) (y : ℕ) → y < g.height → (g.pad_top + y) * stride_of g + stride_of g ≤ alloc_size_of g
row_within g y high =
    let next : g.pad_top + y + 1 ≤ alloc_height_of g = omega arith in
    omega (arith, mul-le-mul_right (stride_of g) next)

pub rows_within : (g : Geometry) (rows : ℕ) → rows ≤ alloc_height_of g → rows * stride_of g ≤ alloc_size_of g
rows_within g rows high = mul-le-mul_right (stride_of g) high
