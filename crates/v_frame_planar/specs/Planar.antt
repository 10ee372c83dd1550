-- The planar bytes of a frame, and the effect of reading or writing them.
use Rattle.std.specs.Prelude.{ℕ, ◌≡◌, ◌+◌, ◌*◌, ◌<◌, ◌≤◌, ◌++◌, Bool, true, false, List, [], length, Option, Some, None}
use Rattle.std.specs.Prelude.{IsSome, option_map}
use Rattle.std.specs.Io.KnownBytes.{Consumes, IsAtEnd}
use Rattle.std.specs.declared.io.ErrorKind.{ErrorKind}
use Rattle.v_frame.specs.Prelude.{PixelForm, byte_list, Table, width_of, height_of, row_major, Tables, isize_max}
use Rattle.v_frame_planar.specs.Counted.{Watched, HasFailed, StopsWriting}
use Rattle.v_frame_planar.specs.declared.counted.WriteFault.{WriteFault}
use Rattle.v_frame_planar.specs.declared.counted.WriteFault.TheVariants.{Failed, TookNothing}
use Rattle.v_frame_planar.specs.declared.error.PlanarError.{PlanarError}
use Rattle.v_frame_planar.specs.declared.error.PlanarError.TheVariants.{Truncated, TooLarge, Read, Write, WriteZero}
use Rattle.v_frame_planar.specs.declared.error.PlanarError.TheVariants.{OutOfMemory}

module _ {T : Type 0} where
  -- The bytes of a plane, or none if it is absent.
  abbrev pub bytes_of_plane : PixelForm T → Option (Table T) → List ℕ
  bytes_of_plane form None = []
  bytes_of_plane form (Some table) = byte_list form table

  -- The planar bytes of a frame: those of Y, then of U, then of V.
  abbrev pub planar_bytes : PixelForm T → Tables T → List ℕ
  planar_bytes form tables =
      byte_list form tables.y
      ++ (bytes_of_plane form tables.u ++ bytes_of_plane form tables.v)

  -- The pixels in the order of their bytes.
  abbrev pub pixels_of_plane : Option (Table T) → List T
  pixels_of_plane None = []
  pixels_of_plane (Some table) = row_major table

  abbrev pub planar_pixels : Tables T → List T
  planar_pixels tables =
      row_major tables.y ++ (pixels_of_plane tables.u ++ pixels_of_plane tables.v)

  -- The width and the height of a table.
  abbrev pub size_of : Table T → ℕ × ℕ
  size_of table = (width_of table, height_of table)

  -- The sizes of all tables of a frame.
  abbrev pub sizes_of : Tables T → (ℕ × ℕ) × (Option (ℕ × ℕ) × Option (ℕ × ℕ))
  sizes_of tables = (size_of tables.y, (option_map size_of tables.u, option_map size_of tables.v))

-- The number of bytes of an optional plane and of all planes, at `pixel` bytes for each pixel.
abbrev pub plane_byte_count : ℕ → Option (ℕ × ℕ) → ℕ
plane_byte_count pixel None = 0
plane_byte_count pixel (Some size) = size.0 * size.1 * pixel

abbrev pub byte_count : ℕ → (ℕ × ℕ) × (Option (ℕ × ℕ) × Option (ℕ × ℕ)) → ℕ
byte_count pixel sizes =
    plane_byte_count pixel (Some sizes.0)
    + (plane_byte_count pixel sizes.1.0 + plane_byte_count pixel sizes.1.1)

-- `count` bytes of the known ones were consumed.
abbrev pub ConsumesSome : Option (List ℕ) → Option (List ℕ) → ℕ → Type 0
ConsumesSome old new count = (bytes : List ℕ) × Consumes old new bytes × (length bytes ≡ count)

module _ {R : Type 0} (remaining : R → Option (List ℕ)) (old new : Watched R) where
  -- A frame with these bytes was read, or the reader was at its end.
  abbrev pub Reads : List ℕ → Bool → Type 0
  Reads bytes true = Consumes (remaining old.inner) (remaining new.inner) bytes
  Reads bytes false =
      Consumes (remaining old.inner) (remaining new.inner) [] × IsAtEnd (remaining new.inner)

  -- The error may be reported if a frame of n bytes is expected, with this effect on the reader.
  abbrev pub MayStopReading : ℕ → PlanarError → Type 0
  MayStopReading n (Truncated expected found) =
      (expected ≡ n) × (0 < found) × (found < n)
      × ConsumesSome (remaining old.inner) (remaining new.inner) found
      × IsAtEnd (remaining new.inner) × (new.failures ≡ old.failures)
  MayStopReading n TooLarge = (isize_max < n) × (new ≡ old)
  MayStopReading n OutOfMemory = (n ≤ isize_max) × (new ≡ old)
  MayStopReading n Read =
      ((count : ℕ) × (count < n) × ConsumesSome (remaining old.inner) (remaining new.inner) count)
      × HasFailed old.failures new.failures
  MayStopReading n Write = ⊥
  MayStopReading n WriteZero = ⊥

-- The error for a failed write.
abbrev pub error_of : WriteFault → PlanarError
error_of Failed = Write
error_of TookNothing = WriteZero

module _ {W : Type 0} (contents : W → Option (List ℕ)) (old new : Watched W) (bytes : List ℕ) where
  -- The error may be reported while a frame with these bytes is written, with this effect on the
  -- writer.
  abbrev pub MayStopWriting : PlanarError → Type 0
  MayStopWriting (Truncated expected found) = ⊥
  MayStopWriting TooLarge = ⊥
  MayStopWriting OutOfMemory = ⊥
  MayStopWriting Read = ⊥
  MayStopWriting Write = StopsWriting contents old new bytes Failed
  MayStopWriting WriteZero = StopsWriting contents old new bytes TookNothing

-- If a read or a write failed, the kind of its error is recorded. Otherwise the last failure is
-- unchanged.
abbrev pub TellsCause : Option ErrorKind → Option ErrorKind → PlanarError → Type 0
TellsCause old new (Truncated expected found) = new ≡ old
TellsCause old new TooLarge = new ≡ old
TellsCause old new OutOfMemory = new ≡ old
TellsCause old new Read = IsSome new
TellsCause old new Write = IsSome new
TellsCause old new WriteZero = new ≡ old
