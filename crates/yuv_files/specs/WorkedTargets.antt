-- Examples that were calculated by hand. Each part is proved by computation (`refl`).
use Rattle.std.specs.Prelude.{◌≡◌, true, false, Some, refl}
use Rattle.yuv_files.specs.Targets.{MayBeWritten, StopsWriting}
use Rattle.yuv_files.specs.declared.kind.FileKind.TheVariants.{Y4m, Svg}
use Rattle.yuv_files.specs.declared.kind.TargetError.TheVariants.{Stream}
use Rattle.yuv_files.specs.declared.kind.TargetFacts.{TargetFacts}

abbrev a_stream : TargetFacts
a_stream = record { named = Some Y4m; is_stream = true; is_input = false }

-- A chart may not replace a stream.
chart_over_a_stream : StopsWriting Svg a_stream Stream
chart_over_a_stream = (refl, refl, refl)

-- A stream may replace a stream.
stream_over_a_stream : MayBeWritten Y4m a_stream
stream_over_a_stream = record { apart = refl; kept = λ _. refl; named = refl }
