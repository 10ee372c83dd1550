-- The definitions that contracts of other crates use, re-exported from one module.
pub use Rattle.v_frame_rgb.specs.Standards.{Weights, Levels, Fraction, ColorSteps, SampleSteps}
pub use Rattle.v_frame_rgb.specs.Standards.{weights_of}
pub use Rattle.v_frame_rgb.specs.Standards.{green_weight, levels_of, gray, nearest, color_steps}
pub use Rattle.v_frame_rgb.specs.Standards.{sample_steps}
pub use Rattle.v_frame_rgb.specs.Colors.{sample_of, color_scale, sample_scale, rgb_matrix_of}
pub use Rattle.v_frame_rgb.specs.Colors.{yuv_matrix_of}
pub use Rattle.v_frame_rgb.specs.Colors.{color_of, y_of, u_of, v_of, colors_of, color_rows}
pub use Rattle.v_frame_rgb.specs.Colors.{colors_in}
pub use Rattle.v_frame_rgb.specs.Colors.{sample_rows}
pub use Rattle.v_frame_rgb.specs.Colors.{colors_by, color_rows_by}
pub use Rattle.v_frame_rgb.specs.Exact.{exact_color, exact_colors, exact_color_rows, gray_at, levels_at}
pub use Rattle.v_frame_rgb.specs.Exact.{steps_at}
pub use Rattle.v_frame_rgb.specs.Laws.{RedIsNear, GreenIsNear, BlueIsNear, LumaIsNear}
pub use Rattle.v_frame_rgb.specs.Laws.{ChromaUIsNear}
pub use Rattle.v_frame_rgb.specs.Laws.{ChromaVIsNear, HasBytes, ComesBack, and_back, blue_loss}
use Rattle.v_frame_rgb.specs.declared.color.Color.{Color as TheColor}
use Rattle.v_frame_rgb.specs.declared.matrix.RgbMatrix.{RgbMatrix as TheRgbMatrix}
use Rattle.v_frame_rgb.specs.declared.matrix.YuvMatrix.{YuvMatrix as TheYuvMatrix}
use Rattle.v_frame_rgb.specs.declared.standard.Standard.{Standard as TheStandard}
use Rattle.v_frame_rgb.specs.declared.standard.ColorRange.{ColorRange as TheColorRange}

-- The types of this crate.
abbrev pub Color : Type 0
Color = TheColor

abbrev pub RgbMatrix : Type 0
RgbMatrix = TheRgbMatrix

abbrev pub YuvMatrix : Type 0
YuvMatrix = TheYuvMatrix

abbrev pub Standard : Type 0
Standard = TheStandard

abbrev pub ColorRange : Type 0
ColorRange = TheColorRange
