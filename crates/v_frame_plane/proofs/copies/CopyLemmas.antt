-- The check of a copy of pixels: the sizes of the plane.
use Rattle.std.proofs.Common.{ℕ, ◌≡◌, ◌*◌, ◌<◌, eqb, false, eq-eqb, List, length, Ok}
use Rattle.std.proofs.Common.{Err, refl, sym, arith}
use Rattle.std.proofs.lemmas.Bool.Decides.{nat_tests}
use Rattle.v_frame_raster.specs.Geometry.{alloc_size_of}
use Rattle.v_frame_raster.specs.Raster.{Raster, table_of}
use Rattle.v_frame_raster.specs.Table.{width_of, height_of, cut_rows}
use Rattle.v_frame_plane.specs.Copy.{packed_copy}
use Rattle.v_frame_plane.specs.declared.error.CopyError.TheVariants.{DataLength}
use Rattle.v_frame_raster.proofs.tables.Sizes.{width_of_shown, height_of_shown}

module _ {T : Type 0} where
  -- The outcome of a copy depends on the sizes of the plane.
  module _ (p : Raster T) (source : List T) (expected : ℕ) (high : 0 < p.geometry.height)
      (whole : length p.buffer ≡ alloc_size_of p.geometry) (e : expected ≡ p.geometry.width * p.geometry.height) where
    pixels : width_of (table_of p) * height_of (table_of p) ≡ expected
    pixels = rw (width_of_shown p high whole, height_of_shown p) (sym e)

    pub copy_refused : (length source ≡ expected → ⊥) → packed_copy (table_of p) source ≡
        record { answer = Err (DataLength expected (length source)); table = table_of p }
    copy_refused other =
        let no : eqb (length source) expected ≡ false = grind (arith, nat_tests) in
        rw (pixels, no) refl

    pub copy_accepted : length source ≡ expected → packed_copy (table_of p) source ≡
        record { answer = Ok tt; table = cut_rows p.geometry.width p.geometry.height source }
    copy_accepted same =
        rw (pixels, eq-eqb (length source) expected same, width_of_shown p high whole, height_of_shown p) refl
