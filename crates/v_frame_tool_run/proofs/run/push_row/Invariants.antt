-- The numbers so far, each after a space.
use Rattle.std.proofs.Common.{◌≡◌, ◌∷◌, ◌++◌, take, decimal, flat_map}
use Rattle.std.specs.String.{string_bytes}
use Rattle.v_frame_tool_run.proofs.run.push_row.Given as goal

abbrev pub invariant-loop-pixel : goal.invariant-loop-pixel
invariant-loop-pixel l = string_bytes l.text ≡ string_bytes l.initial.text ++ flat_map (λ number. 32 ∷ decimal number)
    (take l.pixel-index l.rest)
