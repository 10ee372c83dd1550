-- The bytes of a frame in a semi-planar layout, the pixels that bytes encode, and the effect of
-- reading or writing a frame.
use Rattle.std.specs.Prelude.{ℕ, ◌≡◌, ◌*◌, ◌/◌, ◌^◌, ◌++◌, Bool, true, false, if◌then◌else◌, List}
use Rattle.std.specs.Prelude.{[], length}
use Rattle.std.specs.Prelude.{map, flat_map, Option, Some, None}
use Rattle.std.specs.Io.KnownBytes.{Consumes, IsAtEnd}
use Rattle.std.specs.declared.io.ErrorKind.{ErrorKind}
use Rattle.v_frame.specs.Prelude.{PixelForm, Table, Tables, Frame, bytes_of, value_of_bytes}
use Rattle.v_frame.specs.Prelude.{row_major}
use Rattle.v_frame.specs.Prelude.{cut_rows, tables_of}
use Rattle.v_frame_ops.specs.Change.{combined}
use Rattle.v_frame_planar.specs.Counted.{Watched}
use Rattle.v_frame_planar.specs.Planar.{MayStopReading, MayStopWriting, TellsCause}
use Rattle.v_frame_semi_planar.specs.Interleaved.{interleaved}
use Rattle.v_frame_semi_planar.specs.Format.{begins_with_v, unused_bits, RefusedFor, HasLayout}
use Rattle.v_frame_semi_planar.specs.declared.format.SemiPlanarFormat.{SemiPlanarFormat}
use Rattle.v_frame_semi_planar.specs.declared.error.SemiPlanarError.{SemiPlanarError}
use Rattle.v_frame_semi_planar.specs.declared.error.SemiPlanarError.TheVariants.{BitDepth}
use Rattle.v_frame_semi_planar.specs.declared.error.SemiPlanarError.TheVariants.{Subsampling}
use Rattle.v_frame_semi_planar.specs.declared.error.SemiPlanarError.TheVariants.{ChromaSize}
use Rattle.v_frame_semi_planar.specs.declared.error.SemiPlanarError.TheVariants.{Planar}

module _ {T : Type 0} where
  -- The table with interleaved chroma pixels, U or V first, as the layout has them.
  abbrev pub chroma_table : SemiPlanarFormat → Table T → Table T → Table T
  chroma_table format u v =
      if begins_with_v format then combined interleaved v u else combined interleaved u v

  abbrev pub chroma_pixels : SemiPlanarFormat → Option (Table T) → Option (Table T) → List T
  chroma_pixels format None v = []
  chroma_pixels format (Some u) None = []
  chroma_pixels format (Some u) (Some v) = row_major (chroma_table format u v)

  -- The pixels in the order of their bytes: luma, followed by interleaved chroma.
  abbrev pub semi_planar_pixels : SemiPlanarFormat → Tables T → List T
  semi_planar_pixels format tables =
      row_major tables.y ++ chroma_pixels format tables.u tables.v

module _ {T : Type 0} (form : PixelForm T) where
  -- The bytes of samples, which leave `unused` low bits unused, in little-endian order.
  abbrev pub stored_bytes : ℕ → List T → List ℕ
  stored_bytes unused pixels =
      flat_map (λ pixel. bytes_of form.size (form.value pixel * 2 ^ unused)) pixels

  -- The bytes of a frame in a layout.
  abbrev pub semi_planar_bytes : SemiPlanarFormat → Tables T → List ℕ
  semi_planar_bytes format tables =
      stored_bytes (unused_bits format) (semi_planar_pixels format tables)

  -- The frame fits the layout, and the number of bytes is that of the frame.
  pub record FillsLayout (format : SemiPlanarFormat) (frame : Frame T) (bytes : List ℕ)
      : Type 0 where
    pub layout : HasLayout form.size format frame
    pub long : length bytes ≡ length (semi_planar_bytes format (tables_of frame))

  -- The first `count` pixels that the bytes encode, without the unused bits.
  abbrev pub shown_pixels : ℕ → ℕ → List ℕ → List T
  shown_pixels unused count bytes =
      map (λ group. form.pixel_of (value_of_bytes group / 2 ^ unused))
      (cut_rows form.size count bytes)

module _ {T W : Type 0} (form : PixelForm T) (contents : W → Option (List ℕ)) (old new : Watched W)
    (format : SemiPlanarFormat) (frame : Frame T) where
  -- The error may be reported while this frame is written, with this effect on the writer.
  abbrev pub MayFailWriting : SemiPlanarError → Type 0
  MayFailWriting (Planar error) =
      HasLayout form.size format frame
      × MayStopWriting contents old new (semi_planar_bytes form format (tables_of frame)) error
  MayFailWriting BitDepth = RefusedFor form.size format frame BitDepth × (new ≡ old)
  MayFailWriting Subsampling = RefusedFor form.size format frame Subsampling × (new ≡ old)
  MayFailWriting ChromaSize = RefusedFor form.size format frame ChromaSize × (new ≡ old)

-- If a read or a write failed, the kind of its error is recorded. Otherwise the last failure is
-- unchanged.
abbrev pub TellsFailure : Option ErrorKind → Option ErrorKind → SemiPlanarError → Type 0
TellsFailure old new (Planar error) = TellsCause old new error
TellsFailure old new BitDepth = new ≡ old
TellsFailure old new Subsampling = new ≡ old
TellsFailure old new ChromaSize = new ≡ old

module _ {T R : Type 0} (form : PixelForm T) (remaining : R → Option (List ℕ)) (old new : Watched R)
    (format : SemiPlanarFormat) where
  -- The bytes of a frame with these tables were read, or the reader was at its end.
  abbrev pub ReadsLayout : Tables T → Bool → Type 0
  ReadsLayout tables true =
      (bytes : List ℕ) × Consumes (remaining old.inner) (remaining new.inner) bytes
      × (length bytes ≡ length (semi_planar_bytes form format tables))
      × (semi_planar_pixels format tables
      ≡ shown_pixels form (unused_bits format) (length bytes / form.size) bytes)
  ReadsLayout tables false =
      Consumes (remaining old.inner) (remaining new.inner) [] × IsAtEnd (remaining new.inner)

  -- The error may be reported while a frame is read into this one, with this effect on the reader.
  abbrev pub MayFailReading : Frame T → SemiPlanarError → Type 0
  MayFailReading frame (Planar error) =
      HasLayout form.size format frame
      × MayStopReading remaining old new
      (length (semi_planar_bytes form format (tables_of frame))) error
  MayFailReading frame BitDepth = RefusedFor form.size format frame BitDepth × (new ≡ old)
  MayFailReading frame Subsampling = RefusedFor form.size format frame Subsampling × (new ≡ old)
  MayFailReading frame ChromaSize = RefusedFor form.size format frame ChromaSize × (new ≡ old)
