-- The characters so far.
use Rattle.std.proofs.Common.{◌≡◌, ◌++◌, take}
use Rattle.std.specs.Prelude.{map}
use Rattle.std.specs.String.{string_bytes}
use Rattle.v_frame_y4m.specs.Ascii.{shown_byte}
use Rattle.yuv_facts.proofs.info.text.push_extension.Given as goal

abbrev pub invariant-loop-place : goal.invariant-loop-place
invariant-loop-place l =
    string_bytes l.text ≡ string_bytes l.initial.text ++ map shown_byte (take l.place l.bytes)
