-- The sums of the pixels of pictures, as C reads them.
use Rattle.std.specs.Prelude.{ℕ, ◌≡◌, List, length}
use Rattle.v_frame_statistics.specs.Prelude.{sum_of_products, sum_of_squares, sum_of_values, IsLeast, IsGreatest}
use Rattle.v_frame_slices.specs.Layout.{number_of}
use Rattle.v_frame_slices.specs.declared.statistics.Statistics.{Statistics}
use Rattle.v_frame_slices.specs.declared.statistics.PairStatistics.{PairStatistics}

module _ {T : Type 0} (value : T → ℕ) where
  pub record AreStatistics (pixels : List T) (found : Statistics) : Type 0 where
    pub count : found.count ≡ length pixels
    pub sum : number_of found.sum ≡ sum_of_values value pixels
    pub squares : number_of found.sum_of_squares ≡ sum_of_squares value pixels
    pub minimum : (p : T) × IsLeast value pixels p × (found.minimum ≡ value p)
    pub maximum : (p : T) × IsGreatest value pixels p × (found.maximum ≡ value p)

  pub record ArePairStatistics (pixels others : List T) (found : PairStatistics) : Type 0 where
    pub first : number_of found.first ≡ sum_of_values value pixels
    pub second : number_of found.second ≡ sum_of_values value others
    pub first_squares : number_of found.first_squares ≡ sum_of_squares value pixels
    pub second_squares : number_of found.second_squares ≡ sum_of_squares value others
    pub products : number_of found.products ≡ sum_of_products value pixels others
