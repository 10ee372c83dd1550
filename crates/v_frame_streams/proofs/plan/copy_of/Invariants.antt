-- The texts so far were copied.
use Rattle.std.proofs.Common.{◌≡◌, take}
use Rattle.v_frame_streams.proofs.plan.copy_of.Given as goal

abbrev pub invariant-loop-text : goal.invariant-loop-text
invariant-loop-text l = l.copy.items ≡ take l.text-index l.texts
