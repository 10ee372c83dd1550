-- Frames with samples in the top bits of words and with interleaved chroma, as in P010, P210 and
-- P410.
use Rattle.std.specs.Prelude.{ℕ, ◌≡◌, ◌-◌, ◌*◌, ◌/◌, ◌%◌, ◌^◌, List, length}
use Rattle.v_frame.specs.Prelude.{Table}
use Rattle.v_frame_slices.specs.Calls.{Keeps}
use Rattle.v_frame_slices.specs.Layout.{fits, picture}
use Rattle.v_frame_slices.specs.Numbers.{is_depth}
use Rattle.v_frame_slices.specs.SemiPlanar.{have_layout, is_semi_planar}
use Rattle.v_frame_slices.specs.Status.{status_of_five, status_of_format, status_of_number}
use Rattle.v_frame_slices.specs.declared.layout.Rows.{Rows}
use Rattle.v_frame_ops.specs.Prelude.{combined, mapped}
use Rattle.v_frame_semi_planar.specs.Interleaved.{interleaved}

-- Words that have samples of a bit depth in their top bits. The bits of a sample above the depth
-- are lost.
abbrev pub in_top_bits : ℕ → Table ℕ → Table ℕ
in_top_bits depth samples = mapped (mapped (λ p. p * 2 ^ (16 - depth) % 2 ^ 16)) samples

-- The samples in the top bits of words. The lower bits of a word are lost.
abbrev pub of_top_bits : ℕ → Table ℕ → Table ℕ
of_top_bits depth words = mapped (mapped (λ p. p / 2 ^ (16 - depth))) words

module _ (depth format : ℕ) (y_rows uv_rows source_rows u_rows v_rows : Rows) where
  -- The words of luma have the samples of the source in their top bits. The words of chroma have
  -- those of u and v, interleaved.
  pub record AreInTopBits (y new_y uv new_uv source u v : List ℕ) (status : ℕ) : Type 0 where
    pub answer : status ≡ status_of_number (is_depth 2 depth)
        (status_of_format (is_semi_planar format)
        (status_of_five (fits y_rows (length y)) (fits uv_rows (length uv))
        (fits source_rows (length source))
        (fits u_rows (length u)) (fits v_rows (length v))
        (have_layout format y_rows source_rows uv_rows u_rows v_rows)))
    pub luma : status ≡ 0 → picture y_rows new_y ≡ in_top_bits depth (picture source_rows source)
    pub chroma : status ≡ 0
        → picture uv_rows new_uv ≡ in_top_bits depth
        (combined interleaved (picture u_rows u) (picture v_rows v))
    pub y_kept : Keeps y_rows y new_y status
    pub uv_kept : Keeps uv_rows uv new_uv status

  -- Luma has the samples in the top bits of the source's words. The planes u and v have those of
  -- the interleaved chroma.
  pub record AreOfTopBits (y new_y u new_u v new_v source uv : List ℕ) (status : ℕ) : Type 0 where
    pub answer : status ≡ status_of_number (is_depth 2 depth)
        (status_of_format (is_semi_planar format)
        (status_of_five (fits y_rows (length y)) (fits u_rows (length u)) (fits v_rows (length v))
        (fits source_rows (length source)) (fits uv_rows (length uv))
        (have_layout format y_rows source_rows uv_rows u_rows v_rows)))
    pub luma : status ≡ 0 → picture y_rows new_y ≡ of_top_bits depth (picture source_rows source)
    pub chroma : status ≡ 0
        → combined interleaved (picture u_rows new_u) (picture v_rows new_v)
        ≡ of_top_bits depth (picture uv_rows uv)
    pub y_kept : Keeps y_rows y new_y status
    pub u_kept : Keeps u_rows u new_u status
    pub v_kept : Keeps v_rows v new_v status
