-- A PNG writer that accepts rows fails only if a write fails or memory runs out.
use Rattle.std.proofs.Common.{ℕ, sym, ◌∙◌, arith}
use Rattle.v_frame_png.specs.Refusals.{AcceptsRows, StopsRows}
use Rattle.v_frame_png.specs.declared.error.PngError.{PngError}
use Rattle.v_frame_png.specs.declared.error.PngError.TheVariants.{Size, BitDepth, RowLength, NoRowLeft, RowsMissing}
use Rattle.v_frame_png.specs.declared.error.PngError.TheVariants.{Closed, Write, WriteZero, OutOfMemory}
use Rattle.v_frame_png.specs.declared.writer.PngWriter.{PngWriter}
use Rattle.yuv_pictures.specs.Refusals.{IsTrouble, trouble_of}

module _ {W : Type 0} (png new : PngWriter W) (size count : ℕ) where
  pub trouble_in_rows : (e : PngError) → AcceptsRows png size count → StopsRows png new size count e
      → IsTrouble (trouble_of e)
  trouble_in_rows (Write cause) a s = tt
  trouble_in_rows WriteZero a s = tt
  trouble_in_rows Closed a s = let o = a.is_open in let c = s.0 in absurd (cc)
  trouble_in_rows NoRowLeft a s = absurd (omega (arith, a.left, s.0.1))
  trouble_in_rows (RowLength expected found) a s =
      absurd (s.0.4 (s.0.3 ∙ a.fits ∙ sym s.0.2))
  trouble_in_rows (Size width height) a s = absurd s
  trouble_in_rows BitDepth a s = absurd s
  trouble_in_rows (RowsMissing missing) a s = absurd s
  trouble_in_rows OutOfMemory a s = absurd s
