-- Luma with a padding that was replaced because it is too large is rejected for the same reason,
-- and otherwise as requested.
use Rattle.std.proofs.Common.{◌≡◌, min}
use Rattle.v_frame.specs.Prelude.{usize_max, FrameRequest}
use Rattle.v_frame.specs.declared.frame.error.FrameError.TheVariants.{OutOfMemory}
use Rattle.v_frame_planar.specs.Video.{luma_request, video_request}
use Rattle.v_frame_planar.proofs.Requests.{luma_as_asked}
use Rattle.v_frame_planar.proofs.video.luma_frame.Goals as goal

pub returns : goal.returns
returns g c =
    let a = c.args in
    let asked = video_request a.width a.height a.subsampling a.bit_depth a.padding in
    let cut : FrameRequest = luma_request a.width a.height a.bit_depth (min asked.pad_left usize_max)
    (min asked.pad_top usize_max) in
    let is : c.luma_padding_bottom.result ≡ cut =
    rw (
      c.luma_padding_bottom.ensures,
      c.luma_padding_top.ensures,
      c.luma_padding_right.ensures,
      c.luma_padding_left.ensures,
    )
    (rw (c.new.ensures.size.0, c.new.ensures.size.1, c.new.ensures.format.0, c.new.ensures.format.1)
    (rw (
      c.saturating_mul-across.ensures,
      c.saturating_mul-down.ensures,
      c.div_ceil.ensures,
      c.div_ceil-2.ensures,
      c.subsample_ratio_or_one-columns.ensures.value,
    ))) in
    let made =
    luma_as_asked g.T.Pixel.ZERO g.T.Pixel.BYTES a.width a.height a.bit_depth a.padding a.subsampling c.build.result
    OutOfMemory
    (rw is at c.build.ensures.refused) (rw is at c.build.ensures.blank) in
    record { refused = made.0; blank = made.1 }
