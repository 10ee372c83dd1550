-- A copy consists of frames that were skipped and frames that were copied.
use Rattle.std.proofs.Common.{ℕ, ◌≡◌, ◌+◌, ◌≤◌, ◌<◌, List, [], ◌++◌, length, drop, take, Option, sym, ◌∙◌, ap, subst}
use Rattle.std.proofs.Common.{append-nil, length-append, arith, inl, inr, refl, take_all}
use Rattle.std.proofs.lemmas.Grind.{flat_map-append}
use Rattle.std.proofs.lemmas.List.{drop_all}
use Rattle.std.proofs.lemmas.List.Elements.{All-append}
use Rattle.std.specs.Io.KnownBytes.{Appends, Consumes}
use Rattle.std.proofs.KnownBytes.{Appends-trans, Consumes-trans}
use lib.Seq.{drop-append_seam}
use Rattle.v_frame_semi_planar.specs.declared.format.SemiPlanarFormat.{SemiPlanarFormat}
use Rattle.v_frame_y4m.specs.declared.header.StreamHeader.{StreamHeader}
use Rattle.std.proofs.Common.{Bool, true, false, Result, Ok, Err}
use Rattle.std.specs.Prelude.{if◌then◌else◌, min, OnErr}
use Rattle.std.proofs.lemmas.Bool.{ne_eqb}
use Rattle.v_frame.specs.Prelude.{one_byte, two_bytes, PixelForm}
use Rattle.v_frame_y4m.specs.Color.{depth_of}
use Rattle.v_frame_streams.specs.Conversions.{form_of}
use Rattle.v_frame_streams.specs.Copies.{copied_header, is_plain, kept, limit_of, made_bytes, made_stream, same_bytes, Carries}
use Rattle.v_frame_streams.specs.Copies.{Copies, CopiesBy}
use Rattle.v_frame_streams.specs.Streams.{framed_bytes, header_bytes, most_frames, CountsFrames, Framed, IsFrame, ReadsFrames}
use Rattle.v_frame_streams.specs.Breaks.{BreaksCopy}
use Rattle.v_frame_streams.proofs.Reading.{none_read}
use Rattle.v_frame_streams.specs.declared.options.CopyOptions.{CopyOptions}
use Rattle.v_frame_streams.specs.declared.stream.Container.{Container}

-- The first of two lists is skipped, and the second is no longer than a limit.
second_of_two : {A : Type 0} (first second : List A) (skip limit : ℕ) → length first ≡ skip
    → length second ≤ limit → take limit (drop skip (first ++ second)) ≡ second
second_of_two first second skip limit long short =
    subst (λ (n : ℕ). take limit (drop n (first ++ second)) ≡ second) long
    (ap (take limit) (drop-append_seam first second) ∙ take_all limit second short)

-- After skipping as many items as there are, none is left.
none_behind : {A : Type 0} (items : List A) (skip limit : ℕ) → length items ≤ skip → take limit (drop skip items) ≡ []
none_behind items skip limit long = ap (take limit) (drop_all skip items long) ∙ take_all limit [] (omega arith)

module _ (from : Container) (count : ℕ) where
  -- Frames that were read by two calls.
  two_reads : (left mid left' : Option (List ℕ)) (first second : List Framed) → ReadsFrames left mid from count first
      → ReadsFrames mid left' from count second → ReadsFrames left left' from count (first ++ second)
  two_reads left mid left' first second before after = record {
    whole = All-append (IsFrame from count) first second before.whole after.whole;
    read = subst (Consumes left left') (sym (flat_map-append (framed_bytes from) first second))
        (Consumes-trans left mid left' _ _ before.read after.read);
  }

  -- Nothing has been read or written.
  pub none_broken : (left : Option (List ℕ)) (skip most : ℕ) (begun : ℕ × ℕ)
      → BreaksCopy from count left skip most begun begun
  none_broken left skip most begun = record {
    frames = [];
    mid = left;
    read = none_read from count left;
    bound = omega arith;
    counted = inr (refl, refl);
    written = 0;
    also_counted = inr (refl, refl);
    behind = inl (omega arith);
  }

  -- A copy failed after the skipped frames.
  pub skipped_and_broken : (left mid : Option (List ℕ)) (skip most : ℕ) (begun now after : ℕ × ℕ)
      → CountsFrames left mid from count skip skip → now.0 ≡ min (begun.0 + skip) most_frames → now.1 ≡ begun.1
      → BreaksCopy from count mid 0 most now after → BreaksCopy from count left skip most begun after
  skipped_and_broken left mid skip most begun now after passed reached same broken =
      let long = length-append passed.frames broken.frames in
      record {
        frames = passed.frames ++ broken.frames;
        mid = broken.mid;
        read = two_reads left mid broken.mid passed.frames broken.frames passed.read broken.read;
        bound = omega (arith, long, passed.counted, broken.bound);
        counted = elim broken.counted [
          | inl more ↦ inl (omega (arith, long, passed.counted, more, reached))
          | inr none ↦ inl (omega (arith, long, passed.counted, none.0, none.1, reached))
        ];
        written = broken.written;
        also_counted = elim broken.also_counted [
          | inl more ↦ inl (omega (arith, more, same))
          | inr none ↦ inr (none.0, none.1 ∙ same)
        ];
        behind = elim broken.behind [
          | inl all ↦ inl (omega (arith, long, passed.counted, all))
          | inr but_one ↦ inr (omega (arith, long, passed.counted, but_one))
        ];
      }

  module _ (to : Container) (options : CopyOptions) (header : StreamHeader) (made : List ℕ → List ℕ)
      (left mid left' has now has' : Option (List ℕ)) (line : Appends has now (header_bytes to header)) where
    -- The requested number of frames was skipped.
    pub skipped_and_carried : (found : ℕ) → CountsFrames left mid from count options.skip options.skip
        → Carries from count mid left' now has' to made (limit_of options) found
        → CopiesBy from count left left' has has' to options header made found
    skipped_and_carried found passed carried =
        let first = passed.frames in
        let second = carried.frames in
        let behind : kept options (first ++ second) ≡ second =
        second_of_two first second options.skip (limit_of options) passed.counted
        (omega (arith, carried.counted, carried.bound)) in
        let long : length (first ++ second) ≡ options.skip + found =
        length-append first second ∙ omega (arith, passed.counted, carried.counted) in
        record {
          frames = first ++ second;
          read = two_reads left mid left' first second passed.read carried.read;
          bound = omega (arith, long, carried.bound);
          ends = elim carried.ends [
            | inl whole ↦ inl (long ∙ ap (λ (n : ℕ). options.skip + n) whole)
            | inr ended ↦ inr ended
          ];
          counted = ap length behind ∙ carried.counted;
          written = subst (λ (frames : List Framed). Appends has has' (header_bytes to header ++ made_stream to made frames))
              (sym behind) (Appends-trans has now has' _ _ line carried.written);
        }

    -- The stream ended before that.
    pub skipped_all : (found : ℕ) → found < options.skip → CountsFrames left mid from count options.skip found
        → CopiesBy from count left mid has now to options header made 0
    skipped_all found fewer passed =
        let first = passed.frames in
        let none : kept options first ≡ [] = none_behind first options.skip (limit_of options)
        (omega (arith, passed.counted, fewer)) in
        record {
          frames = first;
          read = passed.read;
          bound = omega (arith, passed.counted, fewer);
          ends = elim passed.ends [ inl whole ↦ absurd (omega (arith, whole, fewer)) | inr ended ↦ inr ended ];
          counted = ap length none;
          written = subst (λ (frames : List Framed). Appends has now (header_bytes to header ++ made_stream to made frames))
              (sym none) (subst (Appends has now) (sym (append-nil (header_bytes to header))) line);
        }

  -- The bytes that are written for a frame, depending on the options and the bit depths.
  module _ (to : Container) (options : CopyOptions) (header made : StreamHeader)
      (layout : Option SemiPlanarFormat) (left left' has has' : Option (List ℕ))
      (found : ℕ) (says : made ≡ copied_header options header) where
    abbrev By : (List ℕ → List ℕ) → StreamHeader → Type 0
    By bytes h = CopiesBy from count left left' has has' to options h bytes found

    abbrev edited_bytes : PixelForm ℕ → StreamHeader → List ℕ → List ℕ
    edited_bytes form h bytes = made_bytes form (form_of (depth_of h.color)) to options header layout bytes

    abbrev all_edited : List ℕ → List ℕ
    all_edited bytes = edited_bytes (form_of (depth_of header.color)) (copied_header options header) bytes

    pub plain_copy : is_plain to options header layout ≡ true → By same_bytes made → Copies from count left left' has has' to
        options header layout found
    plain_copy plain copied =
        subst (λ (b : Bool). By (λ (bytes : List ℕ). if b then bytes else all_edited bytes)
        (copied_header options header)) (sym plain) (subst (By same_bytes) says copied)

    pub edited_copy : (form : PixelForm ℕ) → form ≡ form_of (depth_of header.color) → is_plain to options header layout ≡ false
        → By (edited_bytes form made) made → Copies from count left left' has has' to options header layout found
    edited_copy form is edits copied =
        let by_header = subst (λ (h : StreamHeader). By (edited_bytes form h) h) says copied in
        let by_form = subst (λ (f : PixelForm ℕ). By (edited_bytes f (copied_header options header))
        (copied_header options header)) is by_header in
        subst (λ (b : Bool). By (λ (bytes : List ℕ). if b then bytes else all_edited bytes)
        (copied_header options header)) (sym edits) by_form

-- The encoding of pixels, depending on the bit depth.
pub form_of_eight : (depth : ℕ) → depth ≡ 8 → one_byte ≡ form_of depth
form_of_eight depth is = sym (ap form_of is)

pub form_of_more : (depth : ℕ) → (depth ≡ 8 → ⊥) → two_bytes ≡ form_of depth
form_of_more depth other = sym (ap (λ (b : Bool). if b then one_byte else two_bytes) (ne_eqb depth 8 other))

pub on_err_also : {A E : Type 0} (result : Result A E) (P Q : Type 0) → (P → Q) → OnErr result P → OnErr result Q
on_err_also (Ok done) P Q also holds = tt
on_err_also (Err error) P Q also holds = also holds
