-- Chroma of one format and of another one, at the sizes that cover luma.
use Rattle.std.proofs.Common.{ℕ, ◌≡◌, ◌+◌, ◌/◌, refl, arith}
use Rattle.std.specs.Int.{div_ceil}
use Rattle.v_frame.specs.Prelude.{ChromaSubsampling, Yuv420, Yuv422, Yuv411, Yuv444, Monochrome}
use Rattle.v_frame_convert.specs.Prelude.{scales_between}
use Rattle.v_frame_planar.specs.Video.{chroma_sizes_of}
use Rattle.v_frame_streams.specs.Conversions.{ChromaSizesFit}

module _ (n : ℕ) where
  same : div_ceil n 1 ≡ div_ceil n 1
  same = refl

  half_of_all : div_ceil n 2 ≡ (div_ceil n 1 + 1) / 2
  half_of_all = omega arith

  quarter_of_all : div_ceil n 4 ≡ (div_ceil n 1 + 3) / 4
  quarter_of_all = omega arith

  half_of_half : div_ceil n 4 ≡ (div_ceil n 2 + 1) / 2
  half_of_half = omega arith

module _ (w h : ℕ) where
  pub chroma_sizes_fit : (from to : ChromaSubsampling) → ChromaSizesFit (scales_between from to) (chroma_sizes_of from w h)
      (chroma_sizes_of to w h)
  chroma_sizes_fit Monochrome to = tt
  chroma_sizes_fit Yuv420 Monochrome = tt
  chroma_sizes_fit Yuv422 Monochrome = tt
  chroma_sizes_fit Yuv411 Monochrome = tt
  chroma_sizes_fit Yuv444 Monochrome = tt
  chroma_sizes_fit Yuv420 Yuv420 = (refl, refl)
  chroma_sizes_fit Yuv422 Yuv422 = (refl, refl)
  chroma_sizes_fit Yuv411 Yuv411 = (refl, refl)
  chroma_sizes_fit Yuv444 Yuv444 = (refl, refl)
  chroma_sizes_fit Yuv444 Yuv420 = (half_of_all w, half_of_all h)
  chroma_sizes_fit Yuv420 Yuv444 = (half_of_all w, half_of_all h)
  chroma_sizes_fit Yuv444 Yuv422 = (half_of_all w, refl)
  chroma_sizes_fit Yuv422 Yuv444 = (half_of_all w, refl)
  chroma_sizes_fit Yuv444 Yuv411 = (quarter_of_all w, refl)
  chroma_sizes_fit Yuv411 Yuv444 = (quarter_of_all w, refl)
  chroma_sizes_fit Yuv422 Yuv420 = (refl, half_of_all h)
  chroma_sizes_fit Yuv420 Yuv422 = (refl, half_of_all h)
  chroma_sizes_fit Yuv422 Yuv411 = (half_of_half w, refl)
  chroma_sizes_fit Yuv411 Yuv422 = (half_of_half w, refl)
  chroma_sizes_fit Yuv420 Yuv411 = (half_of_half w, half_of_all h)
  chroma_sizes_fit Yuv411 Yuv420 = (half_of_half w, half_of_all h)
