-- Lines worked out by hand. Each fact computes.
use Rattle.std.specs.Prelude.{◌≡◌, ◌++◌, ◌∷◌, [], Some, codes, refl, slice_get, take}
use Rattle.v_frame_y4m.specs.Ascii.{line_feed}
use Rattle.v_frame_y4m_c.specs.Status.{status_of_line, status_of_numbers}
use Rattle.v_frame_y4m_c.specs.declared.lines.LineFault.TheVariants.{TooLong}
use Rattle.v_frame_y4m_c.specs.declared.numbers.NumberFault.TheVariants.{NoSuchColor}

-- a line of five bytes ends at index 5
ended : slice_get (codes "FRAME" ++ line_feed ∷ (16 ∷ 16 ∷ [])) 5 ≡ Some line_feed
ended = refl

first : take 5 (codes "FRAME" ++ line_feed ∷ (16 ∷ 16 ∷ [])) ≡ codes "FRAME"
first = refl

too_long : status_of_line TooLong ≡ 12
too_long = refl

no_color : status_of_numbers NoSuchColor ≡ 7
no_color = refl
