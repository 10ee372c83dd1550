-- Small examples worked out by hand. Each is proved by computation (`refl`).
use Rattle.std.specs.Prelude.{ℕ, ◌≡◌, Some, [], ◌∷◌, refl}
use Rattle.v_frame.specs.Prelude.{Tables, one_byte, two_bytes}
use Rattle.v_frame_semi_planar.specs.Interleaved.{interleaved}
use Rattle.v_frame_semi_planar.specs.Format.{unused_bits}
use Rattle.v_frame_semi_planar.specs.SemiPlanar.{semi_planar_bytes, shown_pixels}
use Rattle.v_frame_semi_planar.specs.declared.format.SemiPlanarFormat.TheVariants.{Nv12, Nv21, P010}
use Rattle.v_frame_semi_planar.specs.declared.format.SemiPlanarFormat.TheVariants.{P012, P016}

by_turns : interleaved {X = ℕ} (1 ∷ 2 ∷ 3 ∷ []) (7 ∷ 8 ∷ 9 ∷ []) ≡ 1 ∷ 7 ∷ 2 ∷ 8 ∷ 3 ∷ 9 ∷ []
by_turns = refl

-- A picture of 3 by 2 luma pixels and 2 by 1 chroma pixels.
abbrev picture : Tables ℕ
picture = record {
  y = (1 ∷ 2 ∷ 3 ∷ []) ∷ (4 ∷ 5 ∷ 6 ∷ []) ∷ [];
  u = Some ((10 ∷ 11 ∷ []) ∷ []);
  v = Some ((20 ∷ 21 ∷ []) ∷ []);
}

nv12 : semi_planar_bytes one_byte Nv12 picture
    ≡ 1 ∷ 2 ∷ 3 ∷ 4 ∷ 5 ∷ 6 ∷ 10 ∷ 20 ∷ 11 ∷ 21 ∷ []
nv12 = refl

v_first : semi_planar_bytes one_byte Nv21 picture
    ≡ 1 ∷ 2 ∷ 3 ∷ 4 ∷ 5 ∷ 6 ∷ 20 ∷ 10 ∷ 21 ∷ 11 ∷ []
v_first = refl

-- A picture of 1 by 1 pixels with 10 bits: each 16-bit word is 64 times the sample, in
-- little-endian order.
abbrev one_pixel : Tables ℕ
one_pixel = record {
  y = (1023 ∷ []) ∷ [];
  u = Some ((1 ∷ []) ∷ []);
  v = Some ((4 ∷ []) ∷ []);
}

p010 : semi_planar_bytes two_bytes P010 one_pixel ≡ 192 ∷ 255 ∷ 64 ∷ 0 ∷ 0 ∷ 1 ∷ []
p010 = refl

unused_of_p012 : unused_bits P012 ≡ 4
unused_of_p012 = refl

unused_of_p016 : unused_bits P016 ≡ 0
unused_of_p016 = refl

-- Unused low bits are discarded.
shown : shown_pixels two_bytes 6 3 (255 ∷ 255 ∷ 64 ∷ 0 ∷ 63 ∷ 1 ∷ []) ≡ 1023 ∷ 1 ∷ 4 ∷ []
shown = refl
