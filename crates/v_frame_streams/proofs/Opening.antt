-- A stream is not opened if its header line cannot be read, and a frame is not read if its line
-- cannot be read.
use Rattle.std.proofs.Common.{List, ℕ, Option, refl, subst, sym}
use Rattle.v_frame_planar.specs.Counted.{Watched}
use Rattle.v_frame_y4m.specs.Lax.{MayStopInLaxFrameLine, MayStopInLaxHeader}
use Rattle.v_frame_planar.specs.declared.error.PlanarError.{PlanarError}
use Rattle.v_frame_y4m.specs.declared.error.Y4mError.{Y4mError}
use Rattle.v_frame_y4m.specs.declared.error.Y4mError.TheVariants.{Header, LineTooLong, NoFrame, Planar, UnfinishedLine}
use Rattle.v_frame_streams.specs.Errors.{StopsFrame, StopsOpening, Unread}
use Rattle.v_frame_streams.specs.declared.error.Problem.TheVariants.{Stream}
use Rattle.v_frame_streams.specs.declared.stream.Container.TheVariants.{Y4m}

abbrev pub unread : {R : Type 0} → (R → Option (List ℕ)) → Watched R → Unread
unread remaining reader = record { bytes = remaining reader.inner; failures = reader.failures }

module _ {R : Type 0} (remaining : R → Option (List ℕ)) (old new : Watched R) where
  pub opening_stops : (error : Y4mError) → MayStopInLaxHeader remaining old new error
      → StopsOpening (remaining old.inner) (Stream error)
  opening_stops (Header error) stops =
      (remaining new.inner, (stops.0.0, stops.0.1, stops.0.2, stops.0.3, stops.0.4))
  opening_stops LineTooLong stops = (remaining new.inner, (stops.0.0, stops.0.2, stops.0.3, stops.0.1))
  opening_stops UnfinishedLine stops =
      (remaining new.inner, (stops.0.0, stops.0.2, stops.0.3, stops.0.1, stops.1))
  opening_stops NoFrame stops = (remaining new.inner, stops)
  opening_stops (Planar error) stops = (remaining new.inner, (stops.0, stops.1.0, stops.1.2, stops.1.1))

  pub line_stops : (count : ℕ) (error : Y4mError) → MayStopInLaxFrameLine remaining old new error
      → StopsFrame Y4m (unread remaining old) (unread remaining new) count (Stream error)
  line_stops count (Header error) stops = absurd stops
  line_stops count LineTooLong stops = (refl, (stops.0.0, stops.0.2, stops.0.3, stops.0.1))
  line_stops count UnfinishedLine stops =
      (refl, stops.0.0, stops.0.2, stops.0.3, stops.0.4, stops.0.1, stops.1)
  line_stops count NoFrame stops = (refl, stops.0.0, stops.0.1, stops.0.2, stops.0.3, stops.0.4)
  line_stops count (Planar error) stops =
      subst (λ (e : PlanarError). StopsFrame Y4m (unread remaining old) (unread remaining new) count (Stream (Planar e)))
      (sym stops.0) (refl, stops.2)
