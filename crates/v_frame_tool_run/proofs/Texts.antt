-- The results of the frame after a successful copy, and the state of the writer after a fault.
use Rattle.std.proofs.Common.{ℕ, ◌≡◌, List, [], ◌∷◌, length, take, drop, Option, Some, Err, Result}
use Rattle.std.proofs.Common.{true, false, is_ok, inl, inr, None, refl, ◌∙◌, ap, option_map}
use Rattle.std.proofs.lemmas.Bool.Decides.{eqb_tells}
use Rattle.v_frame.specs.Prelude.{one_byte, answers_to, CopyError, DataLength, Answer, FrameRequest, Frame, IsBlank}
use Rattle.v_frame.specs.Prelude.{Monochrome, Table, tables_of, table_of, filled}
use Rattle.v_frame.specs.Build.{luma_geometry, chroma_geometry}
use Rattle.v_frame_planar.specs.Video.{plain_table}
use Rattle.v_frame_planar.proofs.Filled.{table_of_filled}
use Rattle.v_frame.specs.declared.replay.answer.Answer.TheVariants.{Copied, Number, RowShown}
use Rattle.v_frame_planar.specs.Counted.{Watched, StopsWriting}
use Rattle.v_frame_planar.specs.declared.counted.WriteFault.{WriteFault}
use Rattle.v_frame_planar.specs.declared.counted.WriteFault.TheVariants.{Failed, TookNothing}
use Rattle.v_frame_tool_run.specs.Run.{blank_tables, calls_on, tool_fault_of, LeavesWriter}

pub after_copy : (source : List ℕ) (rest : List (Answer ℕ)) (copied : Result (Unit {0}) CopyError) → is_ok copied ≡
    true →
    answers_to one_byte (calls_on source) blank_tables ≡ Copied copied ∷ rest
    → rest ≡ Number (length (take 4 source)) ∷ Number 2 ∷ RowShown (Some (take 4 source)) ∷ RowShown
    (Some (take 4 (drop 4 source))) ∷ []
after_copy source rest copied ok is =
    elim (eqb_tells (length source) 8) [
      | inl same ↦ let all = rw same.0 at is in cc
      | inr other ↦
          let all = rw other.0 at is in
          let refused : copied ≡ Err (DataLength 8 (length source)) = cc in
          let no : false ≡ true = rw refused at ok in
          cc
    ]

-- A small monochrome frame shows its zeros.
pub blank_shows : (request : FrameRequest) (frame : Frame ℕ) → request.width ≡ 4 → request.height ≡ 2 →
    request.subsampling ≡ Monochrome
    → IsBlank 0 request frame → tables_of frame ≡ blank_tables
blank_shows request frame wide high format blank =
    let luma = ap table_of blank.y_plane ∙ table_of_filled 0 (luma_geometry request)
    ∙ ap (λ (n : ℕ). plain_table 0 (n, request.height)) wide ∙ ap (λ (n : ℕ). plain_table 0 (4, n)) high in
    let none : chroma_geometry request ≡ None = rw format refl in
    let u = ap (option_map table_of) (blank.u_plane ∙ ap (option_map (filled 0)) none) in
    let v = ap (option_map table_of) (blank.v_plane ∙ ap (option_map (filled 0)) none) in
    let shown = tables_of frame in
    ap (λ (t : Table ℕ). record shown { y = t }) luma ∙ ap
    (λ (t : Option (Table ℕ)). record blank_tables { u = t; v = shown.v }) u
    ∙ ap (λ (t : Option (Table ℕ)). record blank_tables { v = t }) v

pub leaves_writer : {W : Type 0} (contents : W → Option (List ℕ)) (old new : Watched W) (text : List ℕ)
    (fault : WriteFault) →
    StopsWriting contents old new text fault → LeavesWriter contents old new text (tool_fault_of fault)
leaves_writer contents old new text Failed stopped = stopped.0
leaves_writer contents old new text TookNothing stopped = stopped
