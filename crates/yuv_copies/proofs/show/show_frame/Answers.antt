-- The picture that was read, or a part of it, is shown.
use Rattle.std.proofs.Common.{◌≡◌, ◌∙◌, ap, refl, subst}
use Rattle.std.proofs.lemmas.Result.{IfOk-weaker}
use Rattle.std.specs.Prelude.{IfOk, IsSomeAnd}
use Rattle.v_frame.specs.Prelude.{tables_of, ChromaSubsampling, Frame}
use Rattle.v_frame_png.specs.Prelude.{HasFile}
use Rattle.v_frame_y4m.specs.Color.{subsampling_of}
use Rattle.v_frame_streams.specs.Conversions.{format_of, Format}
use Rattle.v_frame_streams.specs.Prelude.{bytes_left, cropped, stream_of}
use Rattle.v_frame_y4m.specs.declared.header.StreamHeader.{StreamHeader}
use Rattle.yuv_copies.specs.Shows.{colors_asked, drawing_asked, drawing_of, ShowsFrame}
use Rattle.yuv_pictures.specs.declared.colors.Colors.{Colors}
use Rattle.yuv_copies.proofs.Showing.{part_sizes}
use Rattle.yuv_copies.proofs.show.show_frame.Goals as goal

pub returns-in-None : goal.returns-in-None
returns-in-None g c =
    let form = g.T.Pixel.form in
    let contents = g.W.Write.contents in
    let start = contents c.args.out in
    let source = c.args.source.now in
    let options = c.args.options.now in
    let picture = c.in_ok-picture.picture in
    let read = c.in_ok-picture.ensures in
    let frame = c.frame.result.now in
    let same = c.frame.ensures.value in
    let asked : c.colors_of-colors.result ≡ colors_asked options source.header =
    c.colors_of-colors.ensures ∙ ap (λ (h : StreamHeader). colors_asked options h) c.header.ensures in
    let drawn = subst (λ (k : Colors). IfOk c.write_picture.result (λ new. IsSomeAnd (drawing_of form frame options.plane k)
    (λ drawing. HasFile contents start new drawing.0 drawing.1))) asked c.write_picture.ensures.file in
    IfOk-weaker c.write_picture.result
    (λ new. IsSomeAnd (drawing_asked form frame options source.header) (λ drawing. HasFile contents start new drawing.0 drawing.1))
    (ShowsFrame (stream_of source) (bytes_left g.R.Read.remaining source)
    (bytes_left g.R.Read.remaining c.read_picture.new.source) options form contents start)
    (λ new file. record {
      tables = tables_of picture.frame;
      taken = read.taken;
      frame = frame;
      shown = rw (c.in-None.is) (ap (λ (f : Frame g.row.T.Denot). tables_of f) same);
      sizes = rw (c.in-None.is, same) read.sizes;
      format = ap (λ (f : Frame g.row.T.Denot). format_of f) same ∙ read.format;
      file = file;
    }) drawn

pub returns : goal.returns
returns g c =
    let form = g.T.Pixel.form in
    let contents = g.W.Write.contents in
    let start = contents c.args.out in
    let source = c.args.source.now in
    let options = c.args.options.now in
    let picture = c.in_ok-picture.picture in
    let read = c.in_ok-picture.ensures in
    let part = c.in-Some.part in
    let made = c.in_ok-frame-in-Some.frame in
    let cut = c.in_ok-frame-in-Some.ensures in
    let same : picture.frame.subsampling ≡ subsampling_of source.header.color = ap (λ (f : Format). f.0) read.format in
    let asked : c.colors_of-colors.result ≡ colors_asked options source.header =
    c.colors_of-colors.ensures ∙ ap (λ (h : StreamHeader). colors_asked options h) c.header.ensures in
    let drawn = subst (λ (k : Colors). IfOk c.write_picture-in-Some.result (λ new. IsSomeAnd (drawing_of form made options.plane k)
    (λ drawing. HasFile contents start new drawing.0 drawing.1))) asked c.write_picture-in-Some.ensures.file in
    IfOk-weaker c.write_picture-in-Some.result
    (λ new. IsSomeAnd (drawing_asked form made options source.header) (λ drawing. HasFile contents start new drawing.0 drawing.1))
    (ShowsFrame (stream_of source) (bytes_left g.R.Read.remaining source)
    (bytes_left g.R.Read.remaining c.read_picture.new.source) options form contents start)
    (λ new file. record {
      tables = tables_of picture.frame;
      taken = read.taken;
      frame = made;
      shown = rw (c.in-Some.is)
          (cut.shown ∙ ap (λ (s : ChromaSubsampling). cropped s part (tables_of picture.frame)) same);
      sizes = rw (c.in-Some.is) (part_sizes part source.header picture.frame made same read.sizes cut.unpadded);
      format = cut.format ∙ read.format;
      file = file;
    }) drawn
