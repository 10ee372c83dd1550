-- The options of a command as options for streams.
use Rattle.std.specs.Prelude.{ℕ, ◌*◌, ◌≤◌, ◌<◌, if◌then◌else◌, false, min, Option, Some, None, unwrap_or, IfSome, IsSomeAnd}
use Rattle.v_frame_y4m.specs.declared.header.StreamHeader.{StreamHeader}
use Rattle.v_frame.specs.Prelude.{usize_max}
use Rattle.v_frame_streams.specs.declared.comparison.CompareOptions.{CompareOptions}
use Rattle.v_frame_streams.specs.declared.options.CopyOptions.{CopyOptions}
use Rattle.v_frame_streams.specs.declared.stream.Container.{Container}
use Rattle.yuv_words.specs.declared.command.Options.{Options as OptionWords}

-- The largest number of luma pixels that a picture may have: the given number, or the number of
-- pixels of 7680x4320. It is never above the largest `usize`.
abbrev pub most_pixels : Option ℕ → ℕ
most_pixels asked = min (unwrap_or asked 33177600) usize_max

-- If a limit is given, pictures with this header have at most this number of luma pixels.
abbrev pub KeepsLimit : Option ℕ → StreamHeader → Type 0
KeepsLimit asked header = IfSome asked (λ _. header.width * header.height ≤ most_pixels asked)

-- A limit is given, and pictures with this header have more luma pixels.
abbrev pub ExceedsLimit : Option ℕ → StreamHeader → Type 0
ExceedsLimit asked header =
    IsSomeAnd asked (λ _. most_pixels asked < header.width * header.height)

-- The options of `copy`, each with the value that the command line gives.
abbrev pub copy_of : OptionWords → CopyOptions
copy_of options =
    record {
      skip = unwrap_or options.skip 0;
      count = options.count;
      crop = options.crop;
      half = options.half;
      format = options.format;
      frame_rate = options.rate;
      pixel_aspect = options.aspect;
      max_pixels = most_pixels options.max_pixels;
    }

-- The format that `copy` writes: headerless video if `--raw-output` is given, and YUV4MPEG2
-- otherwise.
abbrev pub sink_container : OptionWords → Container
sink_container options = if options.raw_output then Container.Raw else Container.Y4m

-- The number of frames to skip is the value of `--skip` for both streams, unless `--skip-second`
-- gives another number for the second.
abbrev pub taken_of : Option ℕ → Option ℕ → Option ℕ → Option ℕ → CompareOptions
taken_of skip skip_second count max_pixels =
    record {
      skip_first = unwrap_or skip 0;
      skip_second = unwrap_or skip_second (unwrap_or skip 0);
      count = count;
      max_pixels = most_pixels max_pixels;
    }

-- The options of `compare`.
abbrev pub comparison_of : OptionWords → CompareOptions
comparison_of options = taken_of options.skip options.skip_second options.count options.max_pixels

-- The options of `plot`.
abbrev pub plot_of : OptionWords → CompareOptions
plot_of options = taken_of options.skip options.skip_second options.count options.max_pixels
