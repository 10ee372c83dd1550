-- Samples that are stored and decoded again are unchanged, if they have no more bits than the
-- layout.
use Rattle.std.proofs.Common.{All, ℕ, ◌≡◌, ◌+◌, ◌*◌, ◌^◌, ◌<◌, List, [], ◌∷◌, length, refl}
use Rattle.std.proofs.lemmas.List.{take_at, drop_at}
use Rattle.std.proofs.lemmas.List.Elements.{All-head, All-tail}
use Rattle.std.proofs.lemmas.Nat.{shl-shr, shl_below}
use Rattle.v_frame.specs.Prelude.{PixelForm, bytes_of}
use Rattle.v_frame_raster.proofs.PixelBytes.{length-bytes_from, value_of_bytes-bytes_of}
use Rattle.v_frame_semi_planar.specs.Format.{depth_of, sample_size_of, unused_bits}
use Rattle.v_frame_semi_planar.specs.SemiPlanar.{shown_pixels, stored_bytes}
use Rattle.v_frame_semi_planar.specs.declared.format.SemiPlanarFormat.{SemiPlanarFormat}
use Rattle.v_frame_semi_planar.specs.declared.format.SemiPlanarFormat.TheVariants.{Nv12, Nv21, Nv16, Nv24}
use Rattle.v_frame_semi_planar.specs.declared.format.SemiPlanarFormat.TheVariants.{P010, P012, P016}

-- The bits of a sample and its unused bits are the bits of its bytes.
pub all_bits : (format : SemiPlanarFormat) → 2 ^ (depth_of format + unused_bits format) ≡ 256 ^ sample_size_of format
all_bits Nv12 = refl
all_bits Nv21 = refl
all_bits Nv16 = refl
all_bits Nv24 = refl
all_bits P010 = refl
all_bits P012 = refl
all_bits P016 = refl

module _ {T : Type 0} (form : PixelForm T) (unused depth : ℕ) (same : (p : T) → form.pixel_of (form.value p) ≡ p)
    (bits : 2 ^ (depth + unused) ≡ 256 ^ form.size) where
  pub comes_back : (xs : List T) → All (λ pixel. form.value pixel < 2 ^ depth) xs
      → shown_pixels form unused (length xs) (stored_bytes form unused xs) ≡ xs
  comes_back [] below = refl
  comes_back (x ∷ xs) below =
      let word = form.value x * 2 ^ unused in
      let bytes = bytes_of form.size word in
      let long = length-bytes_from 0 form.size word in
      let small : form.value x < 2 ^ depth = All-head (λ pixel. form.value pixel < 2 ^ depth) x xs below in
      let fits : word < 256 ^ form.size = rw (← bits) (shl_below (form.value x) depth unused small) in
      rw (
        take_at bytes (stored_bytes form unused xs) form.size long,
        drop_at bytes (stored_bytes form unused xs) form.size long,
        value_of_bytes-bytes_of form.size word fits,
        shl-shr (form.value x) unused,
        same x,
        comes_back xs (All-tail (λ pixel. form.value pixel < 2 ^ depth) x xs below),
      ) refl
