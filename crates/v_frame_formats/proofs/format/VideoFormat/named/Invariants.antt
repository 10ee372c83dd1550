-- If a format has this name, it is later in the table.
use Rattle.std.proofs.Common.{◌≤◌}
use Rattle.v_frame_formats.specs.Formats.{IsFormat}
use Rattle.v_frame_formats.specs.declared.format.VideoFormat.{VideoFormat}
use Rattle.v_frame_formats.proofs.Places.{format_place}
use Rattle.v_frame_formats.proofs.format.VideoFormat.named.Given as goal

abbrev pub invariant-loop-format : goal.invariant-loop-format
invariant-loop-format l = (f : VideoFormat) → IsFormat f l.name → l.format-index ≤ format_place f
