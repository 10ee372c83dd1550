-- A row of one of these widths is a single block.
use Rattle.std.proofs.Common.{ℕ, ◌≡◌, List, length, take, ◌∙◌, arith}
use Rattle.std.specs.Prelude.{sum_by, zip}
use Rattle.std.proofs.lemmas.List.{take_all}
use Rattle.v_frame_raster.proofs.row_sums.sum_over_rows.Goals as goal

-- The sum over the first pixels is the whole sum if there are no further pixels.
of_all : {T : Type 0} (of : T × T → ℕ) (n sum : ℕ) (xs ys : List T) → length xs ≡ n → length xs ≡ length ys
    → sum ≡ sum_by of (zip (take n xs) (take n ys)) → sum ≡ sum_by of (zip xs ys)
of_all of n sum xs ys long same is =
    is ∙ rw (take_all n xs (omega (arith, long)), take_all n ys (omega (arith, long, same)))

pub returns-in-16 : goal.returns-in-16
returns-in-16 g c =
    c.from-in-16.ensures
    ∙ of_all (λ p. g.D.Difference.between p.0 p.1) 16 _ c.args.a.now c.args.b.now c.in-16.is c.requires
    c.of_sixteens.ensures

pub returns-in-32 : goal.returns-in-32
returns-in-32 g c =
    c.from-in-32.ensures
    ∙ of_all (λ p. g.D.Difference.between p.0 p.1) 32 _ c.args.a.now c.args.b.now c.in-32.is c.requires
    c.of_blocks.ensures

pub returns-in-64 : goal.returns-in-64
returns-in-64 g c =
    c.from-in-64.ensures
    ∙ of_all (λ p. g.D.Difference.between p.0 p.1) 64 _ c.args.a.now c.args.b.now c.in-64.is c.requires
    c.of_sixty_fours.ensures
