-- Sums over pairs are totals of sums over parts, and of sums over rows.
use Rattle.std.specs.Int.{abs_diff}
use Rattle.v_frame_raster.specs.PixelRows.{squared_error}
use Rattle.v_frame_raster.proofs.SumsOfPairs.{sum_of_pairs-adds_up}
use Rattle.v_frame_raster.proofs.laws.sums_add_up.Goals as goal

pub returns-clause-absolute : goal.returns-clause-absolute
returns-clause-absolute g c = sum_of_pairs-adds_up (λ p. abs_diff (g.T.Pixel.form.value p.0) (g.T.Pixel.form.value p.1))

pub returns-clause-squared : goal.returns-clause-squared
returns-clause-squared g c =
    sum_of_pairs-adds_up (λ p. squared_error (g.T.Pixel.form.value p.0) (g.T.Pixel.form.value p.1))
