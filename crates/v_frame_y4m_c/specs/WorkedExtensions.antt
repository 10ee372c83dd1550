-- The range that extensions state, worked out by hand. Each fact computes.
use Rattle.std.specs.Prelude.{◌≡◌, ◌∷◌, [], codes, refl}
use Rattle.v_frame_y4m_c.specs.Extensions.{range_number, range_text}

full : range_number (codes "YSCSS=420JPEG" ∷ codes "COLORRANGE=FULL" ∷ []) ≡ 2
full = refl

limited : range_number (codes "COLORRANGE=LIMITED" ∷ []) ≡ 1
limited = refl

none : range_number (codes "COLORRANGE=OTHER" ∷ []) ≡ 0
none = refl

both : range_number (codes "COLORRANGE=LIMITED" ∷ codes "COLORRANGE=FULL" ∷ []) ≡ 0
both = refl

text : range_text 2 ≡ codes " XCOLORRANGE=FULL"
text = refl
