-- Rows of samples, pixel by pixel, and pictures of such rows.
use Rattle.std.proofs.Common.{ℕ, ◌≡◌, ◌+◌, ◌*◌, ◌<◌, List, [], ◌∷◌, length, take, drop, map, set, refl, arith}
use Rattle.std.proofs.Common.{◌-◌, Some, slice_get, ◌∙◌, length-take-le, length-drop}
use Rattle.std.proofs.lemmas.List.{map-append, take_more_set}
use Rattle.std.proofs.lemmas.Option.{slice_get-map}
use Rattle.v_frame_raster.specs.Table.{Table, cut_rows}
use Rattle.v_frame_raster.specs.StridedRows.{RowsFit}
use Rattle.v_frame_raster.proofs.tables.StridedWrites.{WrittenBelow, row_ends, one_more_written}
use Rattle.v_frame_raster.proofs.tables.CutRows.{cut_rows-one_more}
use Rattle.v_frame_rgb.specs.Colors.{colors_in, sample_rows}
use Rattle.v_frame_rgb.specs.declared.color.Color.{Color}
use borrow.Rule.Slice.PartMut.{put_mid}

-- The loop step of a loop that writes the samples of one color after the other.
pub one_more_sample : (sample : Color → ℕ) (color_at : List ℕ → Color) (size : ℕ) (bytes out : List ℕ) (x s : ℕ)
    → x < length out → s ≡ sample (color_at (take size (drop (size * x) bytes)))
    → take x out ≡ map sample (colors_in color_at size x bytes)
    → take (x + 1) (set out x s) ≡ map sample (colors_in color_at size (x + 1) bytes)
one_more_sample sample color_at size bytes out x s room is so_far =
    let last = take size (drop (size * x) bytes) in
    rw (
      take_more_set out x s room,
      so_far,
      cut_rows-one_more size x bytes,
      map-append color_at (cut_rows size x bytes) (last ∷ []),
      map-append sample (map color_at (cut_rows size x bytes)) (color_at last ∷ []),
      is,
    )

-- The loop step of a loop that writes one row of samples after the other.
pub one_more_sample_row : (sample : Color → ℕ) (color_at : List ℕ → Color) (size width height stride : ℕ)
    (source : Table ℕ) (old now row colors : List ℕ) (k : ℕ)
    → RowsFit width height stride (length old) → k < height → length now ≡ length old
    → slice_get source k ≡ Some colors
    → length row ≡ length (take (stride * k + width - stride * k) (drop (stride * k) now))
    → row ≡ map sample (colors_in color_at size (length (take (stride * k + width - stride * k)
    (drop (stride * k) now))) colors)
    → let rows = sample_rows sample color_at size width source in
    WrittenBelow width height stride rows old now k
    → WrittenBelow width height stride rows old
    (put_mid (stride * k) (stride * k + width - stride * k) now row) (k + 1)
one_more_sample_row sample color_at size width height stride source old now row colors k fit high same read long is
    so_far =
    let start = stride * k in
    let make : List ℕ → List ℕ = λ bytes. map sample (colors_in color_at size width bytes) in
    let ends = row_ends width height stride (length old) k fit high in
    let cut : start + width - start ≡ width = omega arith in
    let part = length-take-le width (drop start now) (omega (arith, length-drop start now, ends, same)) in
    let wide : length row ≡ width = rw (cut, part) at long in
    let samples : row ≡ make colors = rw (cut, part) at is in
    let made : slice_get (map make source) k ≡ Some row = slice_get-map make source k ∙ rw (read, samples) refl in
    rw cut (one_more_written width height stride (map make source) old now row k fit high same made wide so_far)
