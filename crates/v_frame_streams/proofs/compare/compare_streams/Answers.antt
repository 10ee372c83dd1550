-- The pixels of frames of more than 8 bits have two bytes.
use Rattle.std.proofs.Common.{◌≡◌, ◌∙◌, Bool, ℕ, ap, inl, inr, subst, sym}
use Rattle.std.proofs.lemmas.Bool.{ne_eqb}
use Rattle.std.proofs.lemmas.Result.{IfErr-weaker}
use Rattle.std.specs.Prelude.{if◌then◌else◌}
use Rattle.v_frame_y4m.specs.Color.{depth_of}
use Rattle.v_frame_y4m.specs.Frames.{pixel_bytes}
use Rattle.v_frame_y4m.specs.declared.header.StreamHeader.{StreamHeader}
use Rattle.v_frame_streams.specs.Sources.{Stream}
use Rattle.v_frame_streams.specs.Stops.{FailsToCompareAs}
use Rattle.v_frame_streams.proofs.compare.compare_streams.Goals as goal

pub returns-clause-problem : goal.returns-clause-problem
returns-clause-problem g c =
    let first = c.compare_as-2.new.first in
    let second = c.compare_as-2.new.second in
    let depth = depth_of first.header.color in
    let told : c.bit_depth.result ≡ depth_of c.args.first.now.header.color =
    c.bit_depth.ensures ∙ ap (λ (h : StreamHeader). depth_of h.color) c.header.ensures in
    let same : depth ≡ depth_of c.args.first.now.header.color =
    ap (λ (s : Stream). depth_of s.header.color) c.compare_as-2.ensures.same in
    let bytes : pixel_bytes depth ≡ 2 =
    ap (λ (b : Bool). if b then 1 else 2) (ne_eqb depth 8 (λ eight. c.if-bit_depth-eq8.false (told ∙ sym same ∙ eight))) in
    IfErr-weaker c.compare_as-2.result _ _ (λ e fails. elim fails [
      | inl reason ↦ inl (inr (subst (λ (n : ℕ). FailsToCompareAs g.R.Read.remaining g.S.Read.remaining first second
          c.args.options.now.max_pixels n e.problem) (sym bytes) reason))
      | inr observer ↦ inr (inr observer)
    ]) c.compare_as-2.ensures.problem
