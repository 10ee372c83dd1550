-- A stream that is read: its fixed properties, and the bytes that are left.
use Rattle.std.specs.Prelude.{ℕ, ◌≡◌, List, Option}
use Rattle.std.specs.Io.Buffered.{reader_remaining}
use Rattle.v_frame_semi_planar.specs.declared.format.SemiPlanarFormat.{SemiPlanarFormat}
use Rattle.v_frame_y4m.specs.Header.{IsWritable}
use Rattle.v_frame_y4m.specs.declared.header.StreamHeader.{StreamHeader}
use Rattle.v_frame_streams.specs.Errors.{Unread}
use Rattle.v_frame_streams.specs.declared.sink.Sink.{Sink}
use Rattle.v_frame_streams.specs.declared.source.Source.{Source}
use Rattle.v_frame_streams.specs.declared.stream.Container.{Container}
use Rattle.v_frame_streams.specs.declared.stream.Container.TheVariants.{Y4m}
use Rattle.v_frame_streams.specs.declared.stream.Place.{Place}

-- The properties of a stream that no call changes: its role, its container, its header, the
-- semi-planar layout of its frames if they have one, and the number of bytes of a frame.
pub record Stream : Type 0 where
  pub place : Place
  pub container : Container
  pub header : StreamHeader
  pub layout : Option SemiPlanarFormat
  pub frame_len : ℕ

module _ {R : Type 0} where
  abbrev pub stream_of : Source R → Stream
  stream_of source =
      record {
        place = source.place;
        container = source.container;
        header = source.header;
        layout = source.layout;
        frame_len = source.frame_len;
      }

  -- The bytes that are left to be read, if those of the reader are known.
  abbrev pub bytes_left : (R → Option (List ℕ)) → Source R → Option (List ℕ)
  bytes_left remaining source = reader_remaining remaining source.reader.inner

  -- The bytes that are left to be read, and the number of reads that have failed.
  abbrev pub unread_of : (R → Option (List ℕ)) → Source R → Unread
  unread_of remaining source =
      record { bytes = bytes_left remaining source; failures = source.reader.failures }

  -- A stream of which no frame has been read.
  pub record IsOpened (which : Place) (holding : Container) (source : Source R) : Type 0 where
    pub place : source.place ≡ which
    pub container : source.container ≡ holding
    pub frames : source.frames ≡ 0

-- The header can be written to this output: raw video has no header line, and other streams require
-- a writable header.
abbrev pub TakesHeader : {W : Type 0} → Sink W → StreamHeader → Type 0
TakesHeader sink header = sink.container ≡ Y4m → IsWritable header
