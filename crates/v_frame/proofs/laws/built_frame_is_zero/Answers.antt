-- A blank frame is zero everywhere.
use Rattle.std.proofs.lemmas.Result.{IfOk-weaker}
use Rattle.v_frame.proofs.BuiltFrames.{blank_is_zero}
use Rattle.v_frame.proofs.laws.built_frame_is_zero.Goals as goal

pub returns : goal.returns
returns g c = record {
  refused = c.build.ensures.refused;
  zero = IfOk-weaker c.build.result _ _ (blank_is_zero g.T.Pixel.ZERO c.args.builder) c.build.ensures.blank;
}
