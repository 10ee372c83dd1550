-- The options and the bit depths determine the bytes that are written.
use Rattle.std.proofs.Common.{Bool, Option, ◌≡◌, ◌∙◌, ap, sym}
use Rattle.std.proofs.lemmas.Result.{err_from_is_err_and, IfOk-weaker}
use Rattle.v_frame.specs.Prelude.{one_byte, two_bytes}
use Rattle.v_frame_y4m.specs.Color.{depth_of}
use Rattle.v_frame_semi_planar.specs.declared.format.SemiPlanarFormat.{SemiPlanarFormat}
use Rattle.v_frame_y4m.specs.declared.header.StreamHeader.{StreamHeader}
use Rattle.v_frame_streams.specs.Breaks.{counts_of}
use Rattle.v_frame_streams.specs.Copies.{is_plain, limit_of}
use Rattle.v_frame_streams.specs.Sources.{bytes_left}
use Rattle.v_frame_streams.specs.declared.options.CopyOptions.{CopyOptions}
use Rattle.v_frame_streams.specs.declared.stream.Container.{Container}
use Rattle.v_frame_streams.proofs.Copying.{edited_copy, form_of_eight, form_of_more, none_broken, plain_copy}
use Rattle.v_frame_streams.proofs.copy.copy_stream.Goals as goal

-- The branch of the call: whether the bytes of a stream are copied unchanged.
said : (to : Container) (options : CopyOptions) {header read : StreamHeader} {layout found : Option SemiPlanarFormat}
    {plain : Bool} → read ≡ header → found ≡ layout → plain ≡ is_plain to options read found
    → is_plain to options header layout ≡ plain
said to options same there is = rw (← same, ← there) (sym is)

pub returns-then-is_plain-clause-copied : goal.returns-then-is_plain-clause-copied
returns-then-is_plain-clause-copied g c =
    let source = c.args.source.now in
    let plain = said c.args.sink.now.container c.args.options.now c.header.ensures c.layout.ensures.value c.is_plain.ensures
    ∙ c.if-is_plain.true in
    IfOk-weaker c.move_stream.result _ _ (λ found. plain_copy _ _ c.args.sink.now.container c.args.options.now source.header
    c.in_ok-header.header source.layout _ _ _ _ found c.in_ok-header.ensures.header plain) c.move_stream.ensures.copied

pub returns-then-bit_depth-eq8-clause-copied : goal.returns-then-bit_depth-eq8-clause-copied
returns-then-bit_depth-eq8-clause-copied g c =
    let source = c.args.source.now in let header = source.header in
    let edits = said c.args.sink.now.container c.args.options.now c.header.ensures c.layout.ensures.value c.is_plain.ensures
    ∙ c.if-is_plain.false in
    let depth : depth_of header.color ≡ 8 =
    ap (λ (h : StreamHeader). depth_of h.color) (sym c.header-2.ensures) ∙ sym c.bit_depth.ensures
    ∙ c.if-bit_depth-eq8.true in
    IfOk-weaker c.edit_as.result _ _ (λ found. edited_copy _ _ c.args.sink.now.container c.args.options.now header
    c.in_ok-header.header source.layout _ _ _ _ found c.in_ok-header.ensures.header one_byte
    (form_of_eight (depth_of header.color) depth) edits) c.edit_as.ensures.copied

pub returns-clause-copied : goal.returns-clause-copied
returns-clause-copied g c =
    let source = c.args.source.now in let header = source.header in
    let edits = said c.args.sink.now.container c.args.options.now c.header.ensures c.layout.ensures.value c.is_plain.ensures
    ∙ c.if-is_plain.false in
    let told : c.bit_depth.result ≡ depth_of header.color =
    c.bit_depth.ensures ∙ ap (λ (h : StreamHeader). depth_of h.color) c.header-2.ensures in
    IfOk-weaker c.edit_as-2.result _ _ (λ found. edited_copy _ _ c.args.sink.now.container c.args.options.now header
    c.in_ok-header.header source.layout _ _ _ _ found c.in_ok-header.ensures.header two_bytes
    (form_of_more (depth_of header.color) (λ eight. c.if-bit_depth-eq8.false (told ∙ eight))) edits) c.edit_as-2.ensures.copied

pub returns-in_err-header-clause-broken : goal.returns-in_err-header-clause-broken
returns-in_err-header-clause-broken g c =
    let source = c.args.source.now in
    let p = err_from_is_err_and c.from_residual.result c.from_residual.ensures.1 in
    rw (p.1) (none_broken source.container source.frame_len (bytes_left g.R.Read.remaining source) c.args.options.now.skip
    (limit_of c.args.options.now) (counts_of source c.args.sink.now))
