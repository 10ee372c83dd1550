-- Conversions of luma and chroma to colors, and of colors to luma and chroma.
use Rattle.std.specs.Prelude.{ℕ, ◌≡◌, ◌&&◌, List, length}
use Rattle.v_frame_slices.specs.Calls.{Keeps, Writes}
use Rattle.v_frame_slices.specs.ColorChoice.{bytes_by, color_by, is_choice, matrix_by, size_by, yuv_matrix_by}
use Rattle.v_frame_slices.specs.Layout.{fits, picture}
use Rattle.v_frame_slices.specs.Status.{encoded_size, same_size, status_of_four, status_of_number}
use Rattle.v_frame_slices.specs.declared.colors.ColorChoice.{ColorChoice}
use Rattle.v_frame_slices.specs.declared.layout.Rows.{Rows}
use Rattle.v_frame_rgb.specs.Prelude.{color_rows, sample_rows, u_of, v_of, y_of}

module _ (choice : ColorChoice) (rows y_rows u_rows v_rows : Rows) where
  abbrev status_of_colors : List ℕ → List ℕ → List ℕ → List ℕ → ℕ
  status_of_colors buffer y u v =
      status_of_number (is_choice choice)
      (status_of_four (fits rows (length buffer)) (fits y_rows (length y)) (fits u_rows (length u))
      (fits v_rows (length v))
      (encoded_size (size_by choice.order) y_rows rows
      && (same_size y_rows u_rows && same_size y_rows v_rows)))

  abbrev pub AreColors : List ℕ → List ℕ → List ℕ → List ℕ → List ℕ → ℕ → Type 0
  AreColors y u v old new status =
      Writes (status_of_colors old y u v)
      (picture rows new ≡ color_rows (matrix_by choice) (bytes_by choice.order) (picture y_rows y)
      (picture u_rows u) (picture v_rows v))
      rows old new status

  pub record AreSamples (buffer y new_y u new_u v new_v : List ℕ) (status : ℕ) : Type 0 where
    pub answer : status ≡ status_of_colors buffer y u v
    pub luma : status ≡ 0 → picture y_rows new_y
        ≡ sample_rows (y_of (yuv_matrix_by choice)) (color_by choice.order)
        (size_by choice.order) y_rows.width (picture rows buffer)
    pub chroma_u : status ≡ 0 → picture u_rows new_u
        ≡ sample_rows (u_of (yuv_matrix_by choice)) (color_by choice.order)
        (size_by choice.order) y_rows.width (picture rows buffer)
    pub chroma_v : status ≡ 0 → picture v_rows new_v
        ≡ sample_rows (v_of (yuv_matrix_by choice)) (color_by choice.order)
        (size_by choice.order) y_rows.width (picture rows buffer)
    pub y_kept : Keeps y_rows y new_y status
    pub u_kept : Keeps u_rows u new_u status
    pub v_kept : Keeps v_rows v new_v status
