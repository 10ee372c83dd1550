-- Counts of values after one more frame, and after all frames.
use Rattle.std.proofs.Common.{◌≡◌, ◌≤◌, ◌∙◌, ◌+◌, ◌-◌, ◌^◌, ◌++◌, ◌∷◌, [], ℕ, Bool, false, List, Ok, Err, Option, Result, Some, None, ap, arith, inl, inr, length, length-append, map, refl, subst, sym}
use Rattle.std.proofs.lemmas.List.{append-nil, map-append}
use Rattle.std.proofs.lemmas.Grind.{flat_map-append}
use Rattle.std.proofs.lemmas.List.Sums.{sum_by-append}
use Rattle.std.specs.Prelude.{flat_map, is_some, min, option_map, option_to_list, sum_by, IfOk, IfSome, IsOkAnd, OnOk}
use Rattle.std.specs.Result.{is_err}
use Rattle.std.specs.Io.KnownBytes.{Consumes, IsAtEnd}
use Rattle.v_frame.specs.Prelude.{PixelForm, Table, Tables}
use Rattle.v_frame_semi_planar.specs.declared.format.SemiPlanarFormat.{SemiPlanarFormat}
use Rattle.yuv_facts.specs.Values.{times_in, AreZero, CountsChroma, CountsFrame, CountsFrames, CountsNothing, CountsPlanes, CountsStream, CountsTable}
use Rattle.yuv_facts.specs.declared.stats.Counts.{Counts}
use Rattle.yuv_facts.specs.declared.value_counts.ValueCounts.{ValueCounts}
use Rattle.v_frame_streams.specs.Streams.{framed_bytes, IsFrame}
use Rattle.v_frame_streams.specs.Prelude.{tables_of_bytes, Framed, ReadsFrames, Sizes}
use Rattle.v_frame_streams.specs.declared.stream.Container.{Container}
use Rattle.v_frame_streams.proofs.Reading.{no_more_read, none_read, one_more_read}

-- A limited sum of a limited sum is the limited sum.
capped : (a b most : ℕ) → min (min a most + b) most ≡ min (a + b) most
capped a b most = omega arith

-- A plane that exists has a table.
pub there_too : {X Y Z : Type 0} (f : X → Y) (g : Y → Z) (there : Option X)
    → is_some there ≡ is_some (option_map g (option_map f there))
there_too f g None = refl
there_too f g (Some x) = refl

-- If a call succeeds, the result has the property that its contract states.
pub done_of : {A E : Type 0} (result : Result A E) (P : Type 0) → OnOk result P → false ≡ is_err result → P
done_of (Ok done) P holds said = holds
done_of (Err error) P holds said = absurd (cc)

module _ {T : Type 0} (form : PixelForm T) (bound : ℕ) where
  one_more_plane : (planes : List (Table T)) (plane : Table T) (old new : List ℕ) → CountsPlanes form bound planes old
      → CountsTable form bound plane old new → CountsPlanes form bound (planes ++ plane ∷ []) new
  one_more_plane planes plane old new before more = record {
    size = more.size ∙ before.size;
    each = λ value small below.
        let times : Table T → ℕ = λ p. times_in form p value in
        more.more value (omega (arith, small, before.size)) below
        ∙ ap (λ n. min (n + times plane) (2 ^ 64 - 1)) (before.each value small below)
        ∙ capped (sum_by times planes) (times plane) (2 ^ 64 - 1)
        ∙ ap (λ n. min n (2 ^ 64 - 1)) (sym (sum_by-append times planes (plane ∷ []) ∙ omega arith));
    others = λ value small above. more.same value above ∙ before.others value small above;
  }

  counts_of : List (Table T) → Option ValueCounts → Type 0
  counts_of planes found = IfSome found (λ counts. CountsPlanes form bound planes counts.counts.items)

  one_more_chroma : (planes : List (Table T)) (plane : Option (Table T)) (old new : Option ValueCounts)
      → counts_of planes old → CountsChroma form bound plane old new
      → counts_of (planes ++ option_to_list plane) new × (is_some new ≡ is_some old)
  unfolding counts_of
  one_more_chroma planes (Some plane) (Some old) (Some new) before more =
      (one_more_plane planes plane old.counts.items new.counts.items before more, refl)
  one_more_chroma planes (Some plane) (Some old) None before more = absurd more
  one_more_chroma planes (Some plane) None new before more =
      (subst (counts_of (planes ++ plane ∷ [])) (sym more) tt, ap (λ (c : Option ValueCounts). is_some c) more)
  one_more_chroma planes None old new before more = (
    subst (counts_of (planes ++ [])) (sym more)
        (subst (λ (p : List (Table T)). counts_of p old) (sym (append-nil planes)) before),
    ap (λ (c : Option ValueCounts). is_some c) more,
  )

  -- The chroma planes of one more frame.
  chroma_more : (plane : Tables T → Option (Table T)) (frames : List (Tables T)) (tables : Tables T)
      → flat_map (λ t. option_to_list (plane t)) (frames ++ tables ∷ [])
      ≡ flat_map (λ t. option_to_list (plane t)) frames ++ option_to_list (plane tables)
  chroma_more plane frames tables =
      flat_map-append (λ (t : Tables T). option_to_list (plane t)) frames (tables ∷ [])
      ∙ ap (λ (p : List (Table T)). flat_map (λ t. option_to_list (plane t)) frames ++ p)
      (append-nil (option_to_list (plane tables)))

  one_more_frame : (chroma : Bool) (frames : List (Tables T)) (tables : Tables T) (old new : Counts)
      → CountsFrames form bound chroma frames old → CountsFrame form bound tables old new
      → CountsFrames form bound chroma (frames ++ tables ∷ []) new
  unfolding counts_of
  one_more_frame chroma frames tables old new before more =
      let u = one_more_chroma (flat_map (λ t. option_to_list t.u) frames) tables.u old.u new.u before.u more.u in
      let v = one_more_chroma (flat_map (λ t. option_to_list t.v) frames) tables.v old.v new.v before.v more.v in
      record {
        y = subst (λ (p : List (Table T)). CountsPlanes form bound p new.y.counts.items)
            (sym (map-append (λ (t : Tables T). t.y) frames (tables ∷ [])))
            (one_more_plane (map (λ t. t.y) frames) tables.y old.y.counts.items new.y.counts.items before.y more.y);
        u = subst (λ (p : List (Table T)). counts_of p new.u) (sym (chroma_more (λ t. t.u) frames tables)) u.0;
        v = subst (λ (p : List (Table T)). counts_of p new.v) (sym (chroma_more (λ t. t.v) frames tables)) v.0;
        has_chroma = (u.1 ∙ before.has_chroma.0, v.1 ∙ before.has_chroma.1);
      }

  zero_counts : (counts : List ℕ) → AreZero counts → CountsPlanes form bound [] counts
  zero_counts counts zero = record {
    size = zero.size;
    each = λ value small below. zero.zero_each value small ∙ omega arith;
    others = λ value small above. zero.zero_each value small;
  }

  zero_chroma : (found : Option ValueCounts) → IfSome found (λ counts. AreZero counts.counts.items)
      → counts_of [] found
  unfolding counts_of
  zero_chroma None zero = tt
  zero_chroma (Some found) zero = zero_counts found.counts.items zero

  no_frames : (chroma : Bool) (found : Counts) → CountsNothing chroma found → CountsFrames form bound chroma [] found
  unfolding counts_of
  no_frames chroma found nothing = record {
    y = zero_counts found.y.counts.items nothing.y;
    u = zero_chroma found.u nothing.u;
    v = zero_chroma found.v nothing.v;
    has_chroma = nothing.has_chroma;
  }

  module _ (from : Container) (len : ℕ) (layout : Option SemiPlanarFormat) (sizes : Sizes) where
    shows : Framed → Tables T
    shows frame = tables_of_bytes form layout sizes frame.1

    -- The frames that were read so far are `n`, and their values were counted.
    pub record CountsSoFar (left left' : Option (List ℕ)) (n : ℕ) (found : Counts) : Type 0 where
      pub frames : List Framed
      pub read : ReadsFrames left left' from len frames
      pub counted : length frames ≡ n
      pub values : CountsFrames form bound (is_some sizes.1.0)
          (map (λ frame. tables_of_bytes form layout sizes frame.1) frames) found

    pub none_counted : (left : Option (List ℕ)) (found : Counts) (chroma : Bool) → CountsNothing chroma found
        → chroma ≡ is_some sizes.1.0 → CountsSoFar left left 0 found
    none_counted left found chroma nothing there = record {
      frames = [];
      read = none_read from len left;
      counted = refl;
      values = no_frames (is_some sizes.1.0) found
          (subst (λ (b : Bool). CountsNothing b found) there nothing);
    }

    module _ (left mid left' : Option (List ℕ)) (n : ℕ) (old : Counts) (before : CountsSoFar left mid n old) where
      pub one_more_counted : (new : Counts) (frame : Framed) → IsFrame from len frame
          → Consumes mid left' (framed_bytes from frame)
          → CountsFrame form bound (tables_of_bytes form layout sizes frame.1) old new
          → CountsSoFar left left' (n + 1) new
      unfolding shows
      one_more_counted new frame fits read more = record {
        frames = before.frames ++ frame ∷ [];
        read = one_more_read from len left mid left' before.frames before.read frame fits read;
        counted = length-append before.frames (frame ∷ []) ∙ ap (λ k. k + 1) before.counted;
        values = subst (λ (t : List (Tables T)). CountsFrames form bound (is_some sizes.1.0) t new)
            (sym (map-append shows before.frames (frame ∷ [])))
            (one_more_frame (is_some sizes.1.0) (map shows before.frames) (shows frame) old new before.values more);
      }

      pub counted_to_end : (most : ℕ) → Consumes mid left' [] → IsAtEnd left' → n ≤ most
          → CountsStream form bound from len layout sizes left left' most n old
      counted_to_end most read ended fewer = record {
        frames = before.frames;
        read = no_more_read from len left mid left' before.frames before.read read;
        taken = before.counted;
        within = fewer;
        ends = inr ended;
        counted = before.values;
      }

    pub all_counted : (left left' : Option (List ℕ)) (n most : ℕ) (found : Counts) → CountsSoFar left left' n found
        → n ≡ most → CountsStream form bound from len layout sizes left left' most most found
    all_counted left left' n most found before all = record {
      frames = before.frames;
      read = before.read;
      taken = before.counted ∙ all;
      within = omega arith;
      ends = inl refl;
      counted = before.values;
    }

-- A text was created and written.
pub made_and_written : {A E : Type 0} (made : Result A E) (P Q : A → Type 0) → IsOkAnd made P → IfOk made Q
    → (a : A) × P a × Q a
made_and_written (Ok a) P Q written says = (a, written, says)
made_and_written (Err error) P Q written says = absurd written
