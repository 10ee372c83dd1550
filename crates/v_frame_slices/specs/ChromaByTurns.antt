-- Interleaved chroma that is combined from two planes and separated again, by itself and in
-- complete frames.
use Rattle.std.specs.Prelude.{ℕ, ◌≡◌, ◌&&◌, List, length}
use Rattle.v_frame_slices.specs.Calls.{Keeps, Writes}
use Rattle.v_frame_slices.specs.Layout.{fits, picture}
use Rattle.v_frame_slices.specs.SemiPlanar.{have_layout, is_semi_planar}
use Rattle.v_frame_slices.specs.Status.{encoded_size, same_size, status_of_five, status_of_format, status_of_three}
use Rattle.v_frame_slices.specs.declared.layout.Rows.{Rows}
use Rattle.v_frame_ops.specs.Prelude.{combined}
use Rattle.v_frame_semi_planar.specs.Interleaved.{interleaved}

module _ {T : Type 0} (rows u_rows v_rows : Rows) where
  -- The status of a call with interleaved rows, and with the rows of u and of v. The call requires
  -- certain sizes of them.
  abbrev status_of_turns : List T → List T → List T → ℕ
  status_of_turns buffer u v =
      status_of_three (fits rows (length buffer)) (fits u_rows (length u)) (fits v_rows (length v))
      (encoded_size 2 u_rows rows && same_size u_rows v_rows)

  abbrev pub IsInterleaved : List T → List T → List T → List T → ℕ → Type 0
  IsInterleaved u v old new status =
      Writes (status_of_turns old u v) (picture rows new ≡ combined interleaved (picture u_rows u)
      (picture v_rows v))
      rows old new status

  pub record AreDeinterleaved (buffer u new_u v new_v : List T) (status : ℕ) : Type 0 where
    pub answer : status ≡ status_of_turns buffer u v
    pub chroma : status ≡ 0 → picture rows buffer
        ≡ combined interleaved (picture u_rows new_u) (picture v_rows new_v)
    pub u_kept : Keeps u_rows u new_u status
    pub v_kept : Keeps v_rows v new_v status

module _ {T : Type 0} (format : ℕ) (y_rows uv_rows source_rows u_rows v_rows : Rows) where
  -- Luma is the source, and chroma is u and v interleaved.
  pub record IsSemiPlanarOf (y new_y uv new_uv source u v : List T) (status : ℕ) : Type 0 where
    pub answer : status ≡ status_of_format (is_semi_planar format)
        (status_of_five (fits y_rows (length y)) (fits uv_rows (length uv))
        (fits source_rows (length source))
        (fits u_rows (length u)) (fits v_rows (length v))
        (have_layout format y_rows source_rows uv_rows u_rows v_rows))
    pub luma : status ≡ 0 → picture y_rows new_y ≡ picture source_rows source
    pub chroma : status ≡ 0 → picture uv_rows new_uv
        ≡ combined interleaved (picture u_rows u) (picture v_rows v)
    pub y_kept : Keeps y_rows y new_y status
    pub uv_kept : Keeps uv_rows uv new_uv status

  -- Luma is the source, and u and v interleaved are its chroma.
  pub record ArePlanesOf (y new_y u new_u v new_v source uv : List T) (status : ℕ) : Type 0 where
    pub answer : status ≡ status_of_format (is_semi_planar format)
        (status_of_five (fits y_rows (length y)) (fits u_rows (length u)) (fits v_rows (length v))
        (fits source_rows (length source)) (fits uv_rows (length uv))
        (have_layout format y_rows source_rows uv_rows u_rows v_rows))
    pub luma : status ≡ 0 → picture y_rows new_y ≡ picture source_rows source
    pub chroma : status ≡ 0 → picture uv_rows uv
        ≡ combined interleaved (picture u_rows new_u) (picture v_rows new_v)
    pub y_kept : Keeps y_rows y new_y status
    pub u_kept : Keeps u_rows u new_u status
    pub v_kept : Keeps v_rows v new_v status
