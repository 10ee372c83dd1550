-- One more line of checksums, and the end of the lines.
use Rattle.std.proofs.Common.{◌≡◌, ◌≤◌, ◌∙◌, ◌+◌, ◌++◌, ◌∷◌, [], ℕ, suc, Bool, List, Option, add-zero, ap, append_assoc, arith, inl, inr, length, length-append, refl, subst, sym}
use Rattle.std.proofs.lemmas.List.{append-nil}
use Rattle.std.specs.Prelude.{min}
use Rattle.std.specs.Io.KnownBytes.{Appends, Consumes, IsAtEnd}
use Rattle.std.proofs.KnownBytes.{Appends-nil, Appends-trans}
use Rattle.yuv_facts.specs.Checksums.{checksum_lines, checksums_of, SumsFrames}
use Rattle.yuv_reports.specs.Samples.{checksums_line}
use Rattle.v_frame_streams.specs.Streams.{framed_bytes, IsFrame}
use Rattle.v_frame_streams.specs.Prelude.{most_frames, Framed, ReadsFrames, Sizes}
use Rattle.v_frame_streams.specs.declared.stream.Container.{Container}
use Rattle.v_frame_streams.proofs.Reading.{no_more_read, none_read, one_more_read}

module _ (from : Container) (len : ℕ) (planes : Bool) (count : ℕ) (sizes : Sizes) (start : ℕ) where
  -- The frames that were read so far are `n`, and the line of each was written.
  pub record SumsSoFar (left left' has has' : Option (List ℕ)) (n : ℕ) : Type 0 where
    pub frames : List Framed
    pub read : ReadsFrames left left' from len frames
    pub counted : length frames ≡ n
    pub written : Appends has has' (checksum_lines planes count sizes start frames)

  -- The line of a frame that follows `before` frames.
  line : ℕ → Framed → List ℕ
  line before frame = checksums_line (min (before + 1) most_frames) (checksums_of planes count sizes frame.1)

  lines_more : (number : ℕ) (frames : List Framed) (frame : Framed)
      → checksum_lines planes count sizes number (frames ++ frame ∷ [])
      ≡ checksum_lines planes count sizes number frames ++ line (number + length frames) frame
  unfolding line
  lines_more number [] frame = append-nil (line number frame) ∙ ap (λ n. line n frame) (sym (add-zero number))
  lines_more number (first ∷ frames) frame =
      let place : number + 1 + length frames ≡ number + suc (length frames) = omega arith in
      let others = checksum_lines planes count sizes (number + 1) frames in
      ap (λ text. line number first ++ text) (lines_more (number + 1) frames frame)
      ∙ sym (append_assoc (line number first) others (line (number + 1 + length frames) frame))
      ∙ ap (λ n. (line number first ++ others) ++ line n frame) place

  pub none_summed : (left has : Option (List ℕ)) → SumsSoFar left left has has 0
  none_summed left has =
      record { frames = []; read = none_read from len left; counted = refl; written = Appends-nil has }

  module _ (left mid left' has now : Option (List ℕ)) (n : ℕ) (before : SumsSoFar left mid has now n) where
    pub one_more_summed : (has' : Option (List ℕ)) (frame : Framed) → IsFrame from len frame
        → Consumes mid left' (framed_bytes from frame)
        → Appends now has' (checksums_line (min (start + n + 1) most_frames) (checksums_of planes count sizes frame.1))
        → SumsSoFar left left' has has' (n + 1)
    unfolding line
    one_more_summed has' frame fits read appended =
        let number : start + n ≡ start + length before.frames = omega (arith, before.counted) in
        record {
          frames = before.frames ++ frame ∷ [];
          read = one_more_read from len left mid left' before.frames before.read frame fits read;
          counted = length-append before.frames (frame ∷ []) ∙ ap (λ k. k + 1) before.counted;
          written = subst (Appends has has') (sym (lines_more start before.frames frame))
              (Appends-trans has now has' _ _ before.written
              (subst (λ k. Appends now has' (line k frame)) number appended));
        }

    pub summed_to_end : (most : ℕ) → Consumes mid left' [] → IsAtEnd left' → n ≤ most
        → SumsFrames from len left left' has now planes count sizes start most n
    summed_to_end most read ended fewer = record {
      frames = before.frames;
      read = no_more_read from len left mid left' before.frames before.read read;
      counted = before.counted;
      bound = fewer;
      ends = inr ended;
      written = before.written;
    }

  pub all_summed : (left left' has has' : Option (List ℕ)) (n : ℕ) (most : ℕ) → SumsSoFar left left' has has' n
      → n ≡ most → SumsFrames from len left left' has has' planes count sizes start most most
  all_summed left left' has has' n most before all = record {
    frames = before.frames;
    read = before.read;
    counted = before.counted ∙ all;
    bound = omega arith;
    ends = inl refl;
    written = before.written;
  }
