-- The results of calls on a picture, and on two pictures of the same size.
use Rattle.std.specs.Prelude.{ℕ, ◌≡◌, ◌≢◌, ◌↔◌, List, length, nat_lt}
use Rattle.std.specs.Float.Ieee.{Float}
use Rattle.std.specs.Int.{abs_diff}
use Rattle.v_frame.specs.Prelude.{absolute_differences, row_major, squared_errors, PixelForm, Table}
use Rattle.v_frame_slices.specs.Calls.{status_of_pair, Answers}
use Rattle.v_frame_slices.specs.Counts.{count_between}
use Rattle.v_frame_slices.specs.Layout.{fits, nowhere, number_of, picture}
use Rattle.v_frame_slices.specs.Measures.{has_window, status_of_windows, IsGreatest}
use Rattle.v_frame_slices.specs.Numbers.{is_depth}
use Rattle.v_frame_slices.specs.Statistics.{ArePairStatistics, AreStatistics}
use Rattle.v_frame_slices.specs.Status.{status_of_number, status_of_one}
use Rattle.v_frame_slices.specs.declared.layout.Place.{Place}
use Rattle.v_frame_slices.specs.declared.layout.Rows.{Rows}
use Rattle.v_frame_slices.specs.declared.layout.Sum.{Sum}
use Rattle.v_frame_slices.specs.declared.measures.Greatest.{Greatest}
use Rattle.v_frame_slices.specs.declared.statistics.PairStatistics.{PairStatistics}
use Rattle.v_frame_slices.specs.declared.statistics.Statistics.{Statistics}
use Rattle.v_frame_measures.specs.Prelude.{mean_error, peak_of, ssim_of}
use Rattle.v_frame_ops.specs.Prelude.{IsFirstDifference}
use Rattle.v_frame_statistics.specs.Prelude.{passing_pairs}

-- The place is the first one, in the order of rows, at which the pictures differ, or no place if
-- they are equal.
pub record IsFirstPlace {T : Type 0} (a b : Table T) (place : Place) : Type 0 where
  pub none : (place ≡ nowhere) ↔ (a ≡ b)
  pub found : place ≢ nowhere → place.found ≡ 1
  pub first : place ≢ nowhere → IsFirstDifference a b place.x place.y

module _ {T : Type 0} (a_rows b_rows : Rows) (a b : List T) where
  -- A call compares two pictures, and its result has the given meaning.
  abbrev Compares : {A : Type 0} → A → A → ℕ → Type 0 → Type 0
  Compares old new status meaning = Answers
      (status_of_pair a_rows b_rows a b) meaning old new status

  abbrev pub FindsFirst : Place → Place → ℕ → Type 0
  FindsFirst old new status = Compares old new status
      (IsFirstPlace (picture a_rows a) (picture b_rows b) new)

  module _ (form : PixelForm T) where
    abbrev pub SumsSquares : Sum → Sum → ℕ → Type 0
    SumsSquares old new status =
        Compares old new status
        (number_of new ≡ squared_errors form.value (row_major (picture a_rows a))
        (row_major (picture b_rows b)))

    abbrev pub SumsDifferences : Sum → Sum → ℕ → Type 0
    SumsDifferences old new status =
        Compares old new status
        (number_of new ≡ absolute_differences form.value (row_major (picture a_rows a))
        (row_major (picture b_rows b)))

    abbrev pub SumsPairs : PairStatistics → PairStatistics → ℕ → Type 0
    SumsPairs old new status =
        Compares old new status
        (ArePairStatistics form.value (row_major (picture a_rows a))
        (row_major (picture b_rows b)) new)

    abbrev pub FindsGreatest : Greatest → Greatest → ℕ → Type 0
    FindsGreatest old new status = Compares old new status
        (IsGreatest form.value (picture a_rows a) (picture b_rows b) new)

    -- The result is the number of pairs of pixels that differ by more than a threshold.
    abbrev pub CountsAbove : ℕ → ℕ → ℕ → ℕ → Type 0
    CountsAbove threshold old new status =
        Compares old new status
        (new ≡ passing_pairs (λ p q. nat_lt threshold (abs_diff (form.value p) (form.value q)))
        (row_major (picture a_rows a)) (row_major (picture b_rows b)))

    abbrev pub MeasuresError : Float → Float → ℕ → Type 0
    MeasuresError old new status = Compares old new status
        (new ≡ mean_error form.value (picture a_rows a) (picture b_rows b))

    -- Pixels of the given number of bytes can have values of the bit depth, and a window fits into
    -- the pictures.
    abbrev pub MeasuresSimilarity : ℕ → ℕ → Float → Float → ℕ → Type 0
    MeasuresSimilarity bytes depth old new status =
        Answers (status_of_number (is_depth bytes depth)
        (status_of_windows (status_of_pair a_rows b_rows a b) (has_window a_rows)))
        (new ≡ ssim_of form (peak_of depth) (picture a_rows a) (picture b_rows b)) old new status

module _ {T : Type 0} (rows : Rows) (buffer : List T) (value : T → ℕ) where
  abbrev pub SumsPixels : Statistics → Statistics → ℕ → Type 0
  SumsPixels old new status =
      Answers (status_of_one (fits rows (length buffer)))
      (AreStatistics value (row_major (picture rows buffer)) new)
      old new status

  abbrev pub CountsBetween : T → T → ℕ → ℕ → ℕ → Type 0
  CountsBetween least greatest old new status =
      Answers (status_of_one (fits rows (length buffer)))
      (new ≡ count_between value least greatest (row_major (picture rows buffer))) old new status
