-- One more frame of a stream, and the end of the stream.
use Rattle.std.proofs.Common.{ℕ, ◌≡◌, ◌+◌, List, [], ◌∷◌, ◌++◌, flat_map, length, Option, refl, sym, ◌∙◌, ap, subst, arith}
use Rattle.std.proofs.Common.{append-nil, length-append, inl, inr, ◌≤◌}
use Rattle.std.proofs.lemmas.List.Elements.{All-push}
use Rattle.std.proofs.lemmas.Grind.{flat_map-append}
use Rattle.std.specs.Io.KnownBytes.{Appends, Consumes, IsAtEnd}
use Rattle.std.proofs.KnownBytes.{Appends-nil, Appends-trans, Consumes-nil, Consumes-trans}
use Rattle.v_frame_streams.specs.Copies.{Carries, MovesNext}
use Rattle.v_frame_streams.specs.Streams.{framed_bytes, written_bytes, frame_line, CountsFrames, Framed, IsFrame, ReadsFrames}
use Rattle.v_frame_streams.specs.Streams.{ReadsNext, ReadsWhole}
use Rattle.v_frame_y4m.specs.Ascii.{line_feed}
use Rattle.std.proofs.Common.{append_assoc, Bool, true, false}
use Rattle.v_frame.specs.Prelude.{PixelForm, Tables}
use Rattle.v_frame_semi_planar.specs.declared.format.SemiPlanarFormat.{SemiPlanarFormat}
use Rattle.v_frame_streams.specs.Pictures.{ReadsTables, Sizes}
use Rattle.v_frame_streams.specs.declared.stream.Container.TheVariants.{Y4m, Raw}
use Rattle.v_frame_streams.specs.declared.stream.Container.{Container}

-- The bytes of one more frame.
joined : (bytes : Framed → List ℕ) (frames : List Framed) (frame : Framed)
    → flat_map bytes frames ++ bytes frame ≡ flat_map bytes (frames ++ frame ∷ [])
joined bytes frames frame = sym (flat_map-append bytes frames (frame ∷ []) ∙ ap
    (λ (b : List ℕ). flat_map bytes frames ++ b) (append-nil (bytes frame)))

-- The front of a frame, and the rest of it.
module _ (count : ℕ) (left mid left' : Option (List ℕ)) (front rest : List ℕ) (long : length front + length rest ≡ count)
    (read : Consumes mid left' rest) where
  of_parts : (from : Container) (begun : ReadsNext left mid from front true)
      → IsFrame from count (begun.0, front ++ rest) × Consumes left left' (framed_bytes from (begun.0, front ++ rest))
  of_parts Y4m begun = (
    record { line = begun.1; size = length-append front rest ∙ long },
    subst (Consumes left left') (append_assoc begun.0 (line_feed ∷ front) rest)
        (Consumes-trans left mid left' _ _ begun.2 read),
  )
  of_parts Raw begun = (
    record { line = begun.1; size = length-append front rest ∙ long },
    Consumes-trans left mid left' _ _ begun.2 read,
  )

  pub whole_of_parts : (from : Container) → ReadsNext left mid from front true → ReadsWhole left left' from count true
  whole_of_parts from begun =
      let whole = of_parts from begun in ((begun.0, front ++ rest), whole.0, whole.1)

  -- The front of a frame and its rest, written unchanged: the line in front of it, the front and
  -- the rest.
  pub moved_of_parts : (from to : Container) (has began now has' : Option (List ℕ)) → ReadsNext left mid from front true
      → Appends has began (frame_line to) → Appends began now front → Appends now has' rest
      → MovesNext from count left left' has has' to true
  moved_of_parts from to has began now has' begun line sent also =
      let whole = of_parts from begun in (
        (begun.0, front ++ rest),
        whole.0,
        whole.1,
        subst (Appends has has') (append_assoc (frame_line to) front rest)
            (Appends-trans has now has' _ _ (Appends-trans has began now _ _ line sent) also),
      )

-- A frame with these tables was read whole.
pub whole_of_tables : {T : Type 0} (form : PixelForm T) (from : Container) (count : ℕ) (layout : Option SemiPlanarFormat) (sizes : Sizes)
    (left left' : Option (List ℕ)) (bytes : List ℕ) (tables : Tables T) (more : Bool)
    → ReadsTables form from count layout sizes left left' bytes tables more → ReadsWhole left left' from count more
whole_of_tables form from count layout sizes left left' bytes tables true read = ((read.0, bytes), read.1, read.2)
whole_of_tables form from count layout sizes left left' bytes tables false read = read

module _ (from : Container) (count : ℕ) where
  pub none_read : (left : Option (List ℕ)) → ReadsFrames left left from count []
  none_read left = record { whole = λ k d within. absurd (omega arith); read = Consumes-nil left }

  module _ (left mid left' : Option (List ℕ)) (frames : List Framed) (before : ReadsFrames left mid from count frames) where
    pub one_more_read : (frame : Framed) → IsFrame from count frame → Consumes mid left' (framed_bytes from frame)
        → ReadsFrames left left' from count (frames ++ frame ∷ [])
    one_more_read frame fits read = record {
      whole = All-push (IsFrame from count) frames frame before.whole fits;
      read = subst (Consumes left left') (joined (framed_bytes from) frames frame)
          (Consumes-trans left mid left' _ _ before.read read);
    }

    pub no_more_read : Consumes mid left' [] → ReadsFrames left left' from count frames
    no_more_read read = record {
      whole = before.whole;
      read = subst (Consumes left left') (append-nil (flat_map (framed_bytes from) frames))
          (Consumes-trans left mid left' _ [] before.read read);
    }

  pub none_counted : (left : Option (List ℕ)) → CountsFrames left left from count 0 0
  none_counted left = record { frames = []; read = none_read left; counted = refl; bound = omega arith; ends = inl refl }

  module _ (left mid left' : Option (List ℕ)) (n : ℕ) (before : CountsFrames left mid from count n n) where
    pub one_more_counted : (frame : Framed) → IsFrame from count frame → Consumes mid left' (framed_bytes from frame)
        → CountsFrames left left' from count (n + 1) (n + 1)
    one_more_counted frame fits read = record {
      frames = before.frames ++ frame ∷ [];
      read = one_more_read left mid left' before.frames before.read frame fits read;
      counted = length-append before.frames (frame ∷ []) ∙ ap (λ (k : ℕ). k + 1) before.counted;
      bound = omega arith;
      ends = inl refl;
    }

    pub no_more_counted : (most : ℕ) → n ≤ most → Consumes mid left' [] → IsAtEnd left' → CountsFrames left left' from count most n
    no_more_counted most within read ended = record {
      frames = before.frames;
      read = no_more_read left mid left' before.frames before.read read;
      counted = before.counted;
      bound = within;
      ends = inr ended;
    }

  module _ (to : Container) (made : List ℕ → List ℕ) where
    pub none_carried : (left has : Option (List ℕ)) → Carries from count left left has has to made 0 0
    none_carried left has = record {
      frames = [];
      read = none_read left;
      counted = refl;
      bound = omega arith;
      ends = inl refl;
      written = Appends-nil has;
    }

    module _ (left mid left' has now has' : Option (List ℕ)) (n : ℕ)
        (before : Carries from count left mid has now to made n n) where
      pub one_more_carried : (frame : Framed) → IsFrame from count frame
          → Consumes mid left' (framed_bytes from frame) → Appends now has' (written_bytes to (made frame.1))
          → Carries from count left left' has has' to made (n + 1) (n + 1)
      one_more_carried frame fits read written = record {
        frames = before.frames ++ frame ∷ [];
        read = one_more_read left mid left' before.frames before.read frame fits read;
        counted = length-append before.frames (frame ∷ []) ∙ ap (λ (k : ℕ). k + 1) before.counted;
        bound = omega arith;
        ends = inl refl;
        written = subst (Appends has has')
            (joined (λ (f : Framed). written_bytes to (made f.1)) before.frames frame)
            (Appends-trans has now has' _ _ before.written written);
      }

      pub no_more_carried : (most : ℕ) → n ≤ most → Consumes mid left' [] → IsAtEnd left'
          → Carries from count left left' has now to made most n
      no_more_carried most within read ended = record {
        frames = before.frames;
        read = no_more_read left mid left' before.frames before.read read;
        counted = before.counted;
        bound = within;
        ends = inr ended;
        written = before.written;
      }
