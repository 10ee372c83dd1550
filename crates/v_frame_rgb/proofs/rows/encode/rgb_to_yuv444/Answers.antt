-- The loop step writes one row of each buffer from a source row. The last row is handled after the loop.
use Rattle.std.proofs.Common.{ℕ, ◌<◌, List, map, ◌∙◌, arith}
use Rattle.std.proofs.lemmas.List.{length-map}
use Rattle.v_frame_raster.proofs.tables.StridedWrites.{none_written, all_written}
use Rattle.v_frame_rgb.specs.Colors.{colors_in, y_of, u_of, v_of}
use Rattle.v_frame_rgb.proofs.SampleLemmas.{one_more_sample_row}
use Rattle.v_frame_rgb.proofs.rows.encode.rgb_to_yuv444.Goals as goal

pub loop-k-init : goal.loop-k-init
loop-k-init g c = record {
  y = none_written c.args.width c.args.height c.args.strides.0 _ c.args.y.now;
  u = none_written c.args.width c.args.height c.args.strides.1 _ c.args.u.now;
  v = none_written c.args.width c.args.height c.args.strides.2 _ c.args.v.now;
}

pub loop-k-preserved : goal.loop-k-preserved
loop-k-preserved g c =
    let at = g.O.ColorOrder.color_at in let size = g.O.ColorOrder.BYTES in
    let w = c.args.width in let h = c.args.height in let m = c.args.matrix in
    let high : c.loop-k.k < h = omega arith in
    let source = c.args.source.now in let colors = c.visible_row.result.now in let k = c.loop-k.k in
    let wrote = c.encode_channels.ensures in
    record {
      y = one_more_sample_row (y_of m) at size w h c.args.strides.0 source c.args.y.now c.loop-k.y
          c.encode_channels.new.y colors k c.requires.y_fit high c.loop-k.auto.y c.visible_row.ensures.value
          c.encode_channels.auto.y wrote.y c.loop-k.invariant.y;
      u = one_more_sample_row (u_of m) at size w h c.args.strides.1 source c.args.u.now c.loop-k.u
          c.encode_channels.new.u colors k c.requires.u_fit high c.loop-k.auto.u c.visible_row.ensures.value
          c.encode_channels.auto.u wrote.u c.loop-k.invariant.u;
      v = one_more_sample_row (v_of m) at size w h c.args.strides.2 source c.args.v.now c.loop-k.v
          c.encode_channels.new.v colors k c.requires.v_fit high c.loop-k.auto.v c.visible_row.ensures.value
          c.encode_channels.auto.v wrote.v c.loop-k.invariant.v;
    }

pub returns-clause-luma : goal.returns-clause-luma
returns-clause-luma g c =
    let make : List ℕ → List ℕ =
    λ source. map (y_of c.args.matrix) (colors_in g.O.ColorOrder.color_at g.O.ColorOrder.BYTES c.args.width source) in
    all_written c.args.width c.args.height c.args.strides.0 (map make c.args.source.now) c.args.y.now c.loop-k.y
    c.loop-k.k (length-map c.args.source.now make ∙ c.requires.high) (omega arith) c.loop-k.invariant.y

pub returns-clause-chroma_u : goal.returns-clause-chroma_u
returns-clause-chroma_u g c =
    let make : List ℕ → List ℕ =
    λ source. map (u_of c.args.matrix) (colors_in g.O.ColorOrder.color_at g.O.ColorOrder.BYTES c.args.width source) in
    all_written c.args.width c.args.height c.args.strides.1 (map make c.args.source.now) c.args.u.now c.loop-k.u
    c.loop-k.k (length-map c.args.source.now make ∙ c.requires.high) (omega arith) c.loop-k.invariant.u

pub returns-clause-chroma_v : goal.returns-clause-chroma_v
returns-clause-chroma_v g c =
    let make : List ℕ → List ℕ =
    λ source. map (v_of c.args.matrix) (colors_in g.O.ColorOrder.color_at g.O.ColorOrder.BYTES c.args.width source) in
    all_written c.args.width c.args.height c.args.strides.2 (map make c.args.source.now) c.args.v.now c.loop-k.v
    c.loop-k.k (length-map c.args.source.now make ∙ c.requires.high) (omega arith) c.loop-k.invariant.v
