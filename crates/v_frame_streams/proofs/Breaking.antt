-- Frames that are not read whole: a read failed, or the stream ended after the bytes that were
-- read.
use Rattle.std.proofs.Common.{ℕ, ◌≡◌, ◌<◌, ◌+◌, List, ◌∷◌, ◌++◌, length, refl, sym, ◌∙◌, subst, arith, append_assoc}
use Rattle.std.proofs.lemmas.List.{length-append}
use Rattle.std.specs.Io.KnownBytes.{Consumes}
use Rattle.std.proofs.KnownBytes.{Consumes-trans}
use Rattle.v_frame_planar.specs.Counted.{HasFailed}
use Rattle.v_frame_planar.specs.declared.error.PlanarError.TheVariants.{Truncated}
use Rattle.v_frame_y4m.specs.Ascii.{line_feed}
use Rattle.v_frame_y4m.specs.declared.error.Y4mError.TheVariants.{Planar}
use Rattle.v_frame_streams.specs.Errors.{FailsToRead, StopsFrame, StopsInside, Unread}
use Rattle.v_frame_streams.specs.Streams.{framed_bytes, HasLine}
use Rattle.v_frame_streams.specs.declared.error.Problem.{Problem}
use Rattle.v_frame_streams.specs.declared.error.Problem.TheVariants.{Stream}
use Rattle.v_frame_streams.specs.declared.stream.Container.{Container}
use Rattle.v_frame_streams.specs.declared.stream.Container.TheVariants.{Raw, Y4m}

module _ (start left : Unread) (count : ℕ) where
  pub fails_inside : (before : ℕ) (problem : Problem) → FailsToRead start left problem
      → StopsInside before start left count problem
  fails_inside before problem fails =
      subst (StopsInside before start left count) (sym fails.0) (refl, fails.1)

  pub fails_at_frame : (from : Container) (problem : Problem) → FailsToRead start left problem
      → StopsFrame from start left count problem
  fails_at_frame from problem fails =
      subst (StopsFrame from start left count) (sym fails.0) (refl, fails.1)

  module _ (mid : Unread) (uncounted : mid.failures ≡ start.failures) where
    fails_before : (problem : Problem) → FailsToRead mid left problem → FailsToRead start left problem
    fails_before problem fails = (fails.0, subst (λ (n : ℕ). HasFailed n left.failures) uncounted fails.1)

    -- More bytes of the frame were read in front of that position.
    pub stops_behind : (before : ℕ) (bytes : List ℕ) → Consumes start.bytes mid.bytes bytes → (problem : Problem)
        → StopsInside (before + length bytes) mid left count problem → StopsInside before start left count problem
    stops_behind before bytes read (Stream (Planar (Truncated expected found))) stops = (
      stops.0,
      stops.1,
      bytes ++ stops.2,
      omega (arith, stops.3, length-append bytes stops.2),
      Consumes-trans _ _ _ _ _ read stops.4,
      stops.5,
    )
    stops_behind before bytes read problem stops = fails_before problem stops

    framed_more : (from : Container) (line front bytes : List ℕ)
        → framed_bytes from (line, front) ++ bytes ≡ framed_bytes from (line, front ++ bytes)
    framed_more Y4m line front bytes = append_assoc line (line_feed ∷ front) bytes
    framed_more Raw line front bytes = refl

    -- The front of the frame was read, after its line.
    pub stops_in_frame : (from : Container) (line front : List ℕ) → HasLine from line → (from ≡ Raw → 0 < length front)
        → Consumes start.bytes mid.bytes (framed_bytes from (line, front)) → (problem : Problem)
        → StopsInside (length front) mid left count problem → StopsFrame from start left count problem
    stops_in_frame from line front is some read (Stream (Planar (Truncated expected found))) stops = (
      stops.0,
      stops.1,
      λ raw. omega (arith, some raw, stops.3),
      (line, front ++ stops.2),
      is,
      stops.3 ∙ sym (length-append front stops.2),
      subst (Consumes start.bytes left.bytes) (framed_more from line front stops.2)
          (Consumes-trans _ _ _ _ _ read stops.4),
      stops.5,
    )
    stops_in_frame from line front is some read problem stops =
        fails_at_frame from problem (fails_before problem stops)
