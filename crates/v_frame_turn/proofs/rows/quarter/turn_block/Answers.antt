-- The loop step: two more columns have their final values.
use Rattle.std.proofs.Common.{◌≡◌, ◌*◌, inl, inr, arith}
use Rattle.std.proofs.lemmas.Bool.{cases_lt, cases_eq}
use Rattle.v_frame_raster.proofs.tables.StridedWrites.{rest_kept}
use Rattle.v_frame_turn.proofs.rows.quarter.turn_block.Goals as goal

pub loop-pair-preserved : goal.loop-pair-preserved
loop-pair-preserved g c =
    let turned = c.turn_pair.ensures in
    let next = c.min-next.ensures in record {
      columns = λ x across below y low high. elim (cases_lt x (2 * c.loop-pair.pair)) [
        | inl before ↦ turned.kept x y (c.loop-pair.invariant.columns x across before y low high)
        | inr from ↦ elim (cases_eq x (2 * c.loop-pair.pair)) [
          | inl here ↦ rw here (turned.column y low high)
          | inr behind ↦
              let there : x ≡ c.min-next.result = omega (arith, next) in
              rw there (turned.next_column y low high)
        ]
      ];
      kept = λ x y was. turned.kept x y (c.loop-pair.invariant.kept x y was);
      rest = rest_kept c.args.width c.args.height c.args.stride c.args.buffer.now c.loop-pair.buffer _
          c.loop-pair.invariant.rest turned.rest;
    }
