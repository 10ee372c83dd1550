-- The subsampling ratios of the formats, and the sizes and geometries of chroma planes.
use Rattle.std.specs.Prelude.{ℕ, ◌*◌, ◌/◌, ◌==◌, ◌&&◌, if◌then◌else◌, Bool, Option, Some, None, Result, Ok, Err}
use Rattle.v_frame_raster.specs.Geometry.{Geometry, geometry_of}
use Rattle.v_frame_raster.specs.declared.chroma.ChromaSubsampling.{ChromaSubsampling}
use Rattle.v_frame_raster.specs.declared.chroma.ChromaSubsampling.TheVariants.{Yuv420, Yuv422, Yuv411, Yuv444}
use Rattle.v_frame_raster.specs.declared.chroma.ChromaSubsampling.TheVariants.{Monochrome}
use Rattle.v_frame_raster.specs.declared.geometry.SubsamplingError.{SubsamplingError}

-- The number of luma columns for each chroma column, and the number of luma rows for each chroma
-- row.
abbrev pub ratio_of : ChromaSubsampling → Option (ℕ × ℕ)
ratio_of Yuv420 = Some (2, 2)
ratio_of Yuv422 = Some (2, 1)
ratio_of Yuv411 = Some (4, 1)
ratio_of Yuv444 = Some (1, 1)
ratio_of Monochrome = None

-- A number is divisible by a ratio if some number times the ratio is equal to it. That number can
-- only be `a / ratio`, as the law `quotients_are_exact` states.
abbrev pub has_quotient : ℕ → ℕ → Bool
has_quotient a ratio = a / ratio * ratio == a

-- The two exact quotients, if both numbers are divisible.
abbrev pub size_by : Option (ℕ × ℕ) → ℕ → ℕ → Option (ℕ × ℕ)
size_by None width height = None
size_by (Some ratio) width height =
    if has_quotient width ratio.0 && has_quotient height ratio.1
    then Some (width / ratio.0, height / ratio.1) else None

-- The size of the chroma planes for a luma plane of this size.
abbrev pub chroma_size_of : ChromaSubsampling → ℕ → ℕ → Option (ℕ × ℕ)
chroma_size_of subsampling width height = size_by (ratio_of subsampling) width height

-- The width and the horizontal paddings are divisible by x; the height and the vertical ones, by y.
abbrev pub is_divisible : ℕ → ℕ → Geometry → Bool
is_divisible x y g =
    has_quotient g.width x
    && (has_quotient g.pad_left x
    && (has_quotient g.pad_right x
    && (has_quotient g.height y && (has_quotient g.pad_top y && has_quotient g.pad_bottom y))))

-- The geometry with all sizes divided. Its ratios are x and y, whatever the ratios of g are.
abbrev pub divided_geometry : ℕ → ℕ → Geometry → Geometry
divided_geometry x y g =
    geometry_of (g.width / x) (g.height / y) (g.pad_left / x) (g.pad_right / x)
    (g.pad_top / y) (g.pad_bottom / y) x y

-- The ratio of a format whose chroma planes have the size of the luma plane.
abbrev pub is_full : ℕ × ℕ → Bool
is_full ratio = ratio.0 == 1 && ratio.1 == 1

-- The geometry of the chroma planes for a given ratio. If chroma has the size of luma, it is the
-- geometry of luma itself, including its ratios.
abbrev pub subsampled_by : Option (ℕ × ℕ) → Geometry → Result (Option Geometry) SubsamplingError
subsampled_by None g = Ok None
subsampled_by (Some ratio) g =
    if is_full ratio then Ok (Some g)
    else (if is_divisible ratio.0 ratio.1 g then Ok (Some (divided_geometry ratio.0 ratio.1 g))
    else Err (record {}))

-- The geometry of the chroma planes: `None` if the format has no chroma, and an error if a size or
-- padding is not divisible.
abbrev pub subsampled : ChromaSubsampling → Geometry → Result (Option Geometry) SubsamplingError
subsampled subsampling g = subsampled_by (ratio_of subsampling) g

-- The geometry of the chroma planes, if there are any.
abbrev pub geometry_in : Result (Option Geometry) SubsamplingError → Option Geometry
geometry_in (Ok geometry) = geometry
geometry_in (Err error) = None
