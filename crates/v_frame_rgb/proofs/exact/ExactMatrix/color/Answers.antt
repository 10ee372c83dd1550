-- Each channel is an exact sum that is rounded once.
use Rattle.std.proofs.Common.{◌≡◌, ◌∙◌}
use Rattle.v_frame_rgb.specs.Exact.{exact_blue, exact_color, exact_green, exact_red}
use Rattle.v_frame_rgb.proofs.ExactLemmas.{blue_is_exact, green_is_exact, red_is_exact}
use Rattle.v_frame_rgb.proofs.exact.ExactMatrix.color.Goals as goal

pub returns : goal.returns
unfolding exact_color
returns c =
    let m = c.args.self.now in
    let y = c.args.y in let u = c.args.u in let v = c.args.v in
    let red : c.channel-red.result ≡ exact_red m.standard m.range m.depth y u v =
    c.channel-red.ensures
    ∙ rw (c.weighed-red_more.ensures.value, c.weighed-red_less.ensures.value, m.black_is, m.gray_is)
    (red_is_exact m.standard m.range m.depth m.scale m.steps m.exact y u v) in
    let green : c.channel-green.result ≡ exact_green m.standard m.range m.depth y u v =
    c.channel-green.ensures
    ∙ rw (
      c.weighed-u_gray.ensures.value,
      c.weighed-v_gray.ensures.value,
      c.weighed-u_less.ensures.value,
      c.weighed-v_less.ensures.value,
      m.black_is,
      m.gray_is,
    ) (green_is_exact m.standard m.range m.depth m.scale m.steps m.exact y u v) in
    let blue : c.channel-blue.result ≡ exact_blue m.standard m.range m.depth y u v =
    c.channel-blue.ensures
    ∙ rw (c.weighed-blue_more.ensures.value, c.weighed-blue_less.ensures.value, m.black_is, m.gray_is)
    (blue_is_exact m.standard m.range m.depth m.scale m.steps m.exact y u v) in
    rw (red, green, blue)
