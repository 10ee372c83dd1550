-- A color with this spelling comes later in the list.
use Rattle.std.proofs.Common.{◌≡◌, ◌≤◌}
use Rattle.std.specs.Prelude.{Some}
use Rattle.v_frame_y4m.specs.Color.{color_text, stated}
use Rattle.v_frame_y4m.specs.declared.color.Color.{Color}
use Rattle.v_frame_y4m.proofs.ColorTexts.{rank}
use Rattle.v_frame_y4m.proofs.color.Color.parse.Given as goal

abbrev pub invariant-loop-color : goal.invariant-loop-color
invariant-loop-color l = (c : Color) → stated c ≡ Some c → l.text ≡ color_text c → l.color-index ≤ rank c
