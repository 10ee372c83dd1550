-- The definitions that contracts of other crates use, re-exported from one module.
pub use Rattle.yuv_pictures.specs.Above.{most_at, AreUpTo}
pub use Rattle.yuv_pictures.specs.Colors.{frame_colors, frame_rows, frame_samples, full_chroma}
pub use Rattle.yuv_pictures.specs.Colors.{has_chroma, luma_shown, rgb_bytes}
pub use Rattle.yuv_pictures.specs.Differences.{AreDifferences, IsChromaDifference}
pub use Rattle.yuv_pictures.specs.Differences.{IsPlaneDifference, difference_rows}
pub use Rattle.yuv_pictures.specs.Gray.{gray_rows, gray_samples, samples_at}
pub use Rattle.yuv_pictures.specs.Planes.{IsPictureSize, picture_header, plane_named}
pub use Rattle.yuv_pictures.specs.Refusals.{AcceptsColors, AcceptsDifference, AcceptsFrame}
pub use Rattle.yuv_pictures.specs.Refusals.{AcceptsGray, AreAlike, IsSound, IsTrouble}
pub use Rattle.yuv_pictures.specs.Refusals.{StopsColors, StopsDifference, StopsFrame, StopsGray}
