-- A new frame shows a table of the requested size, which the copy fills.
use Rattle.std.proofs.Common.{ℕ, ◌<◌, length, get_or, Ok, refl, ◌∙◌, rules}
use Rattle.std.proofs.lemmas.Result.{IfOk-weaker}
use Rattle.v_frame_raster.specs.Pixel.{PixelForm}
use Rattle.v_frame.specs.Frame.{tables_of}
use Rattle.v_frame.specs.declared.frame.error.FrameError.TheVariants.{OutOfMemory}
use Rattle.v_frame_raster.proofs.tables.BytesBack.{AreBytes, are_bytes}
use Rattle.v_frame.proofs.BytePaths.{built_high, blank_size, path_answers, refusal_goes_on}
use Rattle.v_frame.proofs.Draws.{all_given}
use Rattle.v_frame.proofs.laws.byte_paths.bytes_go_through_a_frame.Goals as goal

pub returns-clause-answers : goal.returns-clause-answers
returns-clause-answers g c =
    let form : PixelForm g.row.T.Denot = g.T.Pixel.form in
    let asked = c.args.builder in
    let source = c.args.source.items in
    let frame = c.in_ok-frame.frame in
    let high : 0 < asked.height = built_high (Ok frame) frame refl g.T.Pixel.BYTES asked OutOfMemory
    c.in_ok-frame.ensures.refused in
    let size = blank_size g.T.Pixel.ZERO asked frame.y_plane c.in_ok-frame.ensures.blank.y_plane high in
    let fit : (i d : ℕ) → i < length source → get_or source i d < 256 = search rules in
    let bytes : AreBytes source = are_bytes source fit in
    λ fits whole.
    let answers = path_answers form g.met.T.Pixel.value_of_pixel source bytes c.args.stride c.args.sides.items
    (tables_of frame) asked.width asked.height
    size.0 size.1 fits whole in
    let given = IfOk-weaker c.copied_and_walked.result _ _ (λ done e. e ∙ answers) c.copied_and_walked.ensures in
    search rules

pub returns-clause-all : goal.returns-clause-all
returns-clause-all g c = λ enough. all_given _ _ enough

pub returns-in_err-frame-clause-all : goal.returns-in_err-frame-clause-all
returns-in_err-frame-clause-all g c = λ enough. all_given _ _ enough

pub returns-in_err-frame-clause-refused : goal.returns-in_err-frame-clause-refused
returns-in_err-frame-clause-refused g c =
    refusal_goes_on c.build.result c.from_residual.result c.in_err-frame.field-0.0 OutOfMemory _ (search rules)
    (search rules) c.build.ensures.refused
