-- The planes of a frame, named after their contents.
use Rattle.std.specs.Prelude.{ℕ, List, codes}
use Rattle.v_frame_formats.specs.declared.component.Component.{Component}
use Rattle.v_frame_formats.specs.declared.component.Component.TheVariants.{Y, U, V}

-- The index of a plane.
abbrev pub index_of : Component → ℕ
index_of Y = 0
index_of U = 1
index_of V = 2

-- The letter of a plane.
abbrev pub letter_of : Component → List ℕ
letter_of Y = codes "Y"
letter_of U = codes "U"
letter_of V = codes "V"
