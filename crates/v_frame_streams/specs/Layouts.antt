-- Semi-planar layouts: the colors that they can hold, and their equality.
use Rattle.std.specs.Prelude.{◌≡◌, IfSome, Bool, Option}
use Rattle.std.specs.Option.{option_eq}
use denote.Enum.Bare.{sameb}
use Rattle.v_frame_semi_planar.specs.contracts.format.SemiPlanarFormat.{the_type}
use Rattle.v_frame_semi_planar.specs.Format.{depth_of as layout_depth, subsampling_of as layout_chroma}
use Rattle.v_frame_semi_planar.specs.declared.format.SemiPlanarFormat.{SemiPlanarFormat}
use Rattle.v_frame_y4m.specs.Color.{depth_of, subsampling_of}
use Rattle.v_frame_y4m.specs.declared.color.Color.{Color}

-- Frames of this color can be stored in the layout. Without a layout, frames of any color can.
abbrev pub HoldsColor : Option SemiPlanarFormat → Color → Type 0
HoldsColor layout color =
    IfSome layout (λ l. (subsampling_of color ≡ layout_chroma l)
    × (depth_of color ≡ layout_depth l))

-- Two layouts are equal. `None` is planar.
abbrev pub is_same_layout : Option SemiPlanarFormat → Option SemiPlanarFormat → Bool
is_same_layout from to = option_eq (sameb the_type) from to
