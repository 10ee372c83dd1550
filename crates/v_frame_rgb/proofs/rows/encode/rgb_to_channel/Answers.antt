-- The loop step writes one row of the buffer from a source row. The last row is handled after the loop.
use Rattle.std.proofs.Common.{ℕ, List, map, ◌∙◌, arith}
use Rattle.std.proofs.lemmas.List.{length-map}
use Rattle.v_frame_raster.proofs.tables.StridedWrites.{none_written, all_written}
use Rattle.v_frame_rgb.specs.Colors.{colors_in}
use Rattle.v_frame_rgb.proofs.SampleLemmas.{one_more_sample_row}
use Rattle.v_frame_rgb.proofs.rows.encode.rgb_to_channel.Goals as goal

pub loop-k-init : goal.loop-k-init
loop-k-init g c = none_written c.args.width c.args.height c.args.stride _ c.args.buffer.now

pub loop-k-preserved : goal.loop-k-preserved
loop-k-preserved g c =
    one_more_sample_row (g.C.Channel.sample c.args.matrix) g.O.ColorOrder.color_at g.O.ColorOrder.BYTES c.args.width
    c.args.height c.args.stride c.args.source.now c.args.buffer.now c.loop-k.buffer c.encode_row.new.out
    c.visible_row.result.now c.loop-k.k c.requires.fit (omega arith) c.loop-k.auto.buffer c.visible_row.ensures.value
    c.encode_row.auto.out c.encode_row.ensures c.loop-k.invariant

pub returns-clause-table : goal.returns-clause-table
returns-clause-table g c =
    let make : List ℕ → List ℕ =
    λ source. map (g.C.Channel.sample c.args.matrix)
    (colors_in g.O.ColorOrder.color_at g.O.ColorOrder.BYTES c.args.width source) in
    all_written c.args.width c.args.height c.args.stride (map make c.args.source.now) c.args.buffer.now c.loop-k.buffer
    c.loop-k.k (length-map c.args.source.now make ∙ c.requires.high) (omega arith) c.loop-k.invariant

pub returns-clause-rest : goal.returns-clause-rest
returns-clause-rest g c = c.loop-k.invariant.rest
