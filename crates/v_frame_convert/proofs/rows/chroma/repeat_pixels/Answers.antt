-- The pixel that is written is the one that was read.
use Rattle.std.proofs.Common.{◌≡◌, ◌/◌, refl, sym, ◌∙◌, arith, slice_get}
use Rattle.std.proofs.Math.ListN.{set}
use Rattle.std.proofs.lemmas.Option.{slice_get_read}
use Rattle.v_frame_raster.proofs.tables.Lists.{others_are_read, set_is_read}
use Rattle.v_frame_convert.proofs.Scaled.{block_within}
use Rattle.v_frame_convert.proofs.rows.chroma.repeat_pixels.Goals as goal
use borrow.Author.Count.{below_more}

pub loop-x-preserved : goal.loop-x-preserved
loop-x-preserved g c =
    let row = c.loop-x.row in let x = c.loop-x.x in let source = c.args.source.now in let r = c.args.ratio in
    let pixel = c.index-source-x.result in
    let read = slice_get_read source _ (x / r) _ refl (block_within c.requires c.loop-x-test.true)
    c.index-source-x.is in
    below_more (λ k. slice_get (set row x pixel) k ≡ slice_get source (k / r)) x
    (λ k h. others_are_read row x k pixel (omega arith) ∙ c.loop-x.invariant k h)
    (set_is_read row x pixel (omega arith) ∙ sym read)
