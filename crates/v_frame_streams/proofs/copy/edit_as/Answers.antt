-- The bit depth of the output determines the encoding of its pixels.
use Rattle.std.proofs.Common.{◌∙◌, ℕ, subst, sym}
use Rattle.std.specs.Prelude.{IfOk}
use Rattle.v_frame.specs.Prelude.{PixelForm}
use Rattle.v_frame_y4m.specs.Color.{depth_of}
use Rattle.v_frame_streams.specs.Copies.{made_bytes, CopiesBy}
use Rattle.v_frame_streams.specs.Sources.{bytes_left}
use Rattle.v_frame_streams.proofs.Copying.{form_of_eight, form_of_more}
use Rattle.v_frame_streams.proofs.copy.edit_as.Goals as goal

pub returns-then-bit_depth-eq8-clause-copied : goal.returns-then-bit_depth-eq8-clause-copied
returns-then-bit_depth-eq8-clause-copied g c =
    let depth = depth_of c.args.header.now.color in
    subst (λ (f : PixelForm ℕ). IfOk c.edit_stream.result (CopiesBy c.args.source.now.container c.args.source.now.frame_len
    (bytes_left g.R.Read.remaining c.args.source.now) (bytes_left g.R.Read.remaining c.edit_stream.new.source)
    (g.W.Write.contents c.args.sink.now.writer.inner) (g.W.Write.contents c.edit_stream.new.sink.writer.inner)
    c.args.sink.now.container c.args.options.now c.args.header.now
    (made_bytes g.S.Pixel.form f c.args.sink.now.container c.args.options.now c.args.source.now.header
    c.args.source.now.layout)))
    (form_of_eight depth (sym c.bit_depth.ensures ∙ c.if-bit_depth-eq8.true)) c.edit_stream.ensures.copied

pub returns-clause-copied : goal.returns-clause-copied
returns-clause-copied g c =
    let depth = depth_of c.args.header.now.color in
    subst (λ (f : PixelForm ℕ). IfOk c.edit_stream-2.result (CopiesBy c.args.source.now.container c.args.source.now.frame_len
    (bytes_left g.R.Read.remaining c.args.source.now) (bytes_left g.R.Read.remaining c.edit_stream-2.new.source)
    (g.W.Write.contents c.args.sink.now.writer.inner) (g.W.Write.contents c.edit_stream-2.new.sink.writer.inner)
    c.args.sink.now.container c.args.options.now c.args.header.now
    (made_bytes g.S.Pixel.form f c.args.sink.now.container c.args.options.now c.args.source.now.header
    c.args.source.now.layout)))
    (form_of_more depth (λ e. c.if-bit_depth-eq8.false (c.bit_depth.ensures ∙ e))) c.edit_stream-2.ensures.copied
