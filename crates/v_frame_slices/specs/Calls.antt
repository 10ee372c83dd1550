-- The meaning of each call: its status, the property that holds if the status is 0, and its effect
-- on buffers and results.
use Rattle.std.specs.Prelude.{ℕ, ◌≡◌, ◌≢◌, Bool, List, length}
use Rattle.v_frame.specs.Prelude.{KeepsRest, Table}
use Rattle.v_frame_slices.specs.Layout.{fits, picture}
use Rattle.v_frame_slices.specs.Status.{same_size, status_of_number, status_of_two}
use Rattle.v_frame_slices.specs.declared.layout.Rows.{Rows}

-- The entries of a buffer outside its rows are unchanged, and all entries are if the call fails.
pub record Keeps {T : Type 0} (rows : Rows) (old new : List T) (status : ℕ) : Type 0 where
  pub rest : KeepsRest rows.width rows.height rows.stride old new
  pub refused : status ≢ 0 → new ≡ old

-- The status is `wanted`. If it is 0, the result has the given meaning; otherwise it is unchanged.
pub record Answers {A : Type 0} (wanted : ℕ) (meaning : Type 0) (old new : A)
    (status : ℕ) : Type 0 where
  pub answer : status ≡ wanted
  pub found : status ≡ 0 → meaning
  pub refused : status ≢ 0 → new ≡ old

-- The status is `wanted`. If it is 0, the buffer has the given meaning. Entries outside the rows
-- are always unchanged, and all entries are unchanged if the status is not 0.
pub record Writes {T : Type 0} (wanted : ℕ) (meaning : Type 0) (rows : Rows) (old new : List T)
    (status : ℕ) : Type 0 where
  pub answer : status ≡ wanted
  pub written : status ≡ 0 → meaning
  pub rest : KeepsRest rows.width rows.height rows.stride old new
  pub refused : status ≢ 0 → new ≡ old

-- The status of a call that compares two pictures of the same size.
abbrev pub status_of_pair : {T : Type 0} → Rows → Rows → List T → List T → ℕ
status_of_pair a_rows b_rows a b =
    status_of_two (fits a_rows (length a)) (fits b_rows (length b)) (same_size a_rows b_rows)

-- The rows are calculated from other rows. The two truth values state whether the numbers of
-- choices are valid, and whether the sizes are those that the call requires. The rows of both
-- buffers must fit.
module _ {S T : Type 0} (rows source_rows : Rows) (source : List S) (old new : List T)
    (status : ℕ) where
  abbrev pub Makes : Bool → Bool → Type 0 → Type 0
  Makes known sizes meaning =
      Writes (status_of_number known (status_of_two (fits rows (length old))
      (fits source_rows (length source)) sizes))
      meaning rows old new status

  -- The rows show the given picture.
  abbrev pub Shows : Bool → Bool → Table T → Type 0
  Shows known sizes table = Makes known sizes (picture rows new ≡ table)
