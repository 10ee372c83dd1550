-- The output of a copy.
use Rattle.std.specs.Prelude.{ℕ, ◌≡◌, ◌+◌, ◌<◌, ◌≤◌, ◌⊎◌, ◌++◌, ◌&&◌, if◌then◌else◌, Bool, true, false, List}
use Rattle.std.specs.Prelude.{[], ◌∷◌, codes, drop, filter, flat_map, is_none, IsSome, length, nat_eq, not, refl, take, Option, Some, None, unwrap_or}
use Rattle.std.specs.List.{starts_with}
use Rattle.std.specs.Io.KnownBytes.{Appends, Consumes, IsAtEnd}
use Rattle.v_frame.specs.Prelude.{PixelForm}
use Rattle.v_frame_planar.specs.Video.{ratio_or_one}
use Rattle.v_frame_y4m.specs.Color.{depth_of, subsampling_of}
use Rattle.v_frame_y4m.specs.Header.{IsWritable}
use Rattle.v_frame_semi_planar.specs.declared.format.SemiPlanarFormat.{SemiPlanarFormat}
use Rattle.v_frame_y4m.specs.declared.header.StreamHeader.{StreamHeader}
use Rattle.v_frame_streams.specs.Conversions.{color_in, form_of, format_in, is_same_color, is_same_format}
use Rattle.v_frame_streams.specs.Conversions.{layout_in, layout_to}
use Rattle.v_frame_streams.specs.Crops.{IsTakable, RefusesCrop}
use Rattle.v_frame_streams.specs.Layouts.{is_same_layout}
use Rattle.v_frame_streams.specs.Edits.{beside, halved_size}
use Rattle.v_frame_streams.specs.Pictures.{sizes_in, tables_of_bytes}
use Rattle.v_frame_streams.specs.Plans.{planned_bytes, Plan}
use Rattle.v_frame_streams.specs.Streams.{header_bytes, most_frames, written_bytes, Framed, ReadsFrames}
use Rattle.v_frame_streams.specs.Streams.{framed_bytes, CountsFrames, IsFrame}
use Rattle.v_frame_streams.specs.declared.edit.Edit.{Edit}
use Rattle.v_frame_formats.specs.declared.rectangle.Rectangle.{Rectangle}
use Rattle.v_frame_streams.specs.declared.options.CopyOptions.{CopyOptions}
use Rattle.v_frame_streams.specs.declared.error.Problem.{Problem}
use Rattle.v_frame_streams.specs.declared.error.Problem.TheVariants.{OutOfMemory, SemiPlanar, Unwritable}
use Rattle.v_frame_streams.specs.declared.stream.Container.{Container}
use Rattle.v_frame_streams.specs.declared.stream.Container.TheVariants.{Y4m}

-- The largest number of frames that a copy writes.
abbrev pub limit_of : CopyOptions → ℕ
limit_of options = unwrap_or options.count most_frames

-- The frames of the source that a copy writes.
abbrev pub kept : CopyOptions → List Framed → List Framed
kept options frames = take (limit_of options) (drop options.skip frames)

-- The requested value, or the value of the source if none is requested.
abbrev pub or_else : {A : Type 0} → Option A → Option A → Option A
or_else None there = there
or_else (Some asked) there = Some asked

-- The rectangle of each picture that a copy keeps.
abbrev pub taken : CopyOptions → StreamHeader → Rectangle
taken options header =
    unwrap_or options.crop (record { x = 0; y = 0; width = header.width; height = header.height })

-- The edit of each frame.
abbrev pub edit_of : CopyOptions → StreamHeader → Edit
edit_of options header =
    record {
      luma = taken options header;
      chroma = beside (ratio_or_one (subsampling_of header.color)) (taken options header);
      half = options.half;
    }

-- The extension states the chroma format, such as `XYSCSS=420JPEG`, which ffmpeg writes.
abbrev pub states_format : List ℕ → Bool
states_format extension = starts_with nat_eq extension (codes "YSCSS=")

-- The extensions that do not state the chroma format.
abbrev pub without_format : List (List ℕ) → List (List ℕ)
without_format extensions = filter (λ extension. not (states_format extension)) extensions

range_stays : without_format (codes "YSCSS=420JPEG" ∷ codes "COLORRANGE=FULL" ∷ [])
    ≡ codes "COLORRANGE=FULL" ∷ []
range_stays = refl

-- The extensions in the header of the output.
abbrev pub copied_extensions : CopyOptions → StreamHeader → List (List ℕ)
copied_extensions options header =
    if is_same_color (color_in options.format header.color) header.color
    then header.extensions else without_format header.extensions

-- The header of the output.
abbrev pub copied_header : CopyOptions → StreamHeader → StreamHeader
copied_header options header =
    record {
      width = halved_size options.half (taken options header).width;
      height = halved_size options.half (taken options header).height;
      frame_rate = or_else options.frame_rate header.frame_rate;
      interlacing = header.interlacing;
      pixel_aspect = or_else options.pixel_aspect header.pixel_aspect;
      color = color_in options.format header.color;
      extensions = copied_extensions options header;
    }

-- The options allow a copy of a stream with this header to this container: the crop fits its
-- pictures, and the output is planar and has a writable header if it is a YUV4MPEG2 stream.
pub record CanCopy (to : Container) (options : CopyOptions) (header : StreamHeader) : Type 0 where
  pub takable : IsTakable (taken options header) header
  pub planar : to ≡ Y4m → layout_in options.format ≡ None
  pub writable : to ≡ Y4m → IsWritable (copied_header options header)

-- The reason why such a copy is rejected before anything is read or written. The first reason that
-- applies is reported, but a memory allocation may fail before the last two are tested.
abbrev pub RefusesCopy : Container → CopyOptions → StreamHeader → Problem → Type 0
RefusesCopy to options header OutOfMemory = IsTakable (taken options header) header
RefusesCopy to options header SemiPlanar =
    IsTakable (taken options header) header × (to ≡ Y4m) × IsSome (layout_in options.format)
RefusesCopy to options header Unwritable =
    IsTakable (taken options header) header × (to ≡ Y4m) × (layout_in options.format ≡ None)
    × ¬ (IsWritable (copied_header options header))
RefusesCopy to options header problem = RefusesCrop (taken options header) header problem

-- A copy writes the frames of the source, which have this layout, unchanged.
abbrev pub is_plain : Container → CopyOptions → StreamHeader → Option SemiPlanarFormat → Bool
is_plain to options header layout =
    is_none options.crop && not options.half
    && is_same_layout (layout_to to options.format layout) layout
    && is_same_format (format_in header.color) (format_in (copied_header options header).color)

-- The steps from each frame of the source to the output, if frames are edited. `layout` is the
-- layout of the output.
abbrev pub plan_for : CopyOptions → StreamHeader → Option SemiPlanarFormat → Plan
plan_for options header layout =
    let written = copied_header options header in
    let from = format_in header.color in
    let to = format_in written.color in
    record {
      edit = edit_of options header;
      from = from;
      made = sizes_in (record written { color = header.color });
      to = if is_same_format from to then None else Some (to, sizes_in written);
      layout = layout;
    }

-- The bytes written for an edited frame. `bytes` are its bytes in the source, in this layout.
abbrev pub made_bytes : {S T : Type 0} → PixelForm S → PixelForm T → Container → CopyOptions
    → StreamHeader → Option SemiPlanarFormat → List ℕ → List ℕ
made_bytes form other to options header layout bytes =
    planned_bytes form other (plan_for options header (layout_to to options.format layout))
    (tables_of_bytes form layout (sizes_in header) bytes)

-- The bytes written for a frame, edited or not. `bytes` are its bytes in the source, in this
-- layout.
abbrev pub copied_bytes : Container → CopyOptions → StreamHeader → Option SemiPlanarFormat
    → List ℕ → List ℕ
copied_bytes to options header layout bytes =
    let form = form_of (depth_of header.color) in
    let other = form_of (depth_of (copied_header options header).color) in
    if is_plain to options header layout then bytes
    else made_bytes form other to options header layout bytes

-- The bytes of a frame that is written unchanged.
abbrev pub same_bytes : List ℕ → List ℕ
same_bytes bytes = bytes

-- The written frames, each made from a frame that was read.
abbrev pub made_stream : Container → (List ℕ → List ℕ) → List Framed → List ℕ
made_stream to made frames = flat_map (λ frame. written_bytes to (made frame.1)) frames

module _ (from : Container) (count : ℕ) (left left' has has' : Option (List ℕ)) where
  -- `found` frames were read, at most `most`, and the frame made from each was written. If there
  -- were fewer than `most`, the source ended.
  pub record Carries (to : Container) (made : List ℕ → List ℕ) (most found : ℕ) : Type 0 where
    pub frames : List Framed
    pub read : ReadsFrames left left' from count frames
    pub counted : length frames ≡ found
    pub bound : found ≤ most
    pub ends : (found ≡ most) ⊎ IsAtEnd left'
    pub written : Appends has has' (made_stream to made frames)

  -- A whole frame was read and written unchanged, or the source was at its end.
  abbrev pub MovesNext : Container → Bool → Type 0
  MovesNext to true =
      (frame : Framed) × IsFrame from count frame × Consumes left left' (framed_bytes from frame)
      × Appends has has' (written_bytes to frame.1)
  MovesNext to false = Consumes left left' [] × IsAtEnd left' × Appends has has' []

  -- The source was copied: `frames` are the frames read, at most those skipped and those requested.
  -- If there were fewer, the source ended. The header was written, followed by the frames made from
  -- those that are kept.
  pub record CopiesBy (to : Container) (options : CopyOptions) (header : StreamHeader)
      (made : List ℕ → List ℕ) (found : ℕ) : Type 0 where
    pub frames : List Framed
    pub read : ReadsFrames left left' from count frames
    pub bound : length frames ≤ options.skip + limit_of options
    pub ends : (length frames ≡ options.skip + limit_of options) ⊎ IsAtEnd left'
    pub counted : length (kept options frames) ≡ found
    pub written : Appends has has'
        (header_bytes to header ++ made_stream to made (kept options frames))

  -- The source was copied, with the header and the edits that the options determine.
  abbrev pub Copies : Container → CopyOptions → StreamHeader → Option SemiPlanarFormat → ℕ → Type 0
  Copies to options header layout found =
      CopiesBy to options (copied_header options header) (copied_bytes to options header layout)
      found

-- `count` bytes were read and written unchanged.
abbrev pub MovesSome : Option (List ℕ) → Option (List ℕ) → Option (List ℕ) → Option (List ℕ) → ℕ
    → Type 0
MovesSome left left' has has' count =
    (bytes : List ℕ) × Consumes left left' bytes × Appends has has' bytes × (length bytes ≡ count)

-- `skip` frames were skipped, or fewer, and the source ended.
abbrev pub Begins : Container → ℕ → Option (List ℕ) → Option (List ℕ) → ℕ → Bool → Type 0
Begins from count left left' skip true = CountsFrames left left' from count skip skip
Begins from count left left' skip false =
    (found : ℕ) × (found < skip) × CountsFrames left left' from count skip found
