-- The names follow one another.
use Rattle.std.proofs.Common.{[], ◌∷◌, if◌then◌else◌, codes, Bool, is_some}
use Rattle.std.specs.String.{string_bytes}
use lib.Utf8.{encode}
use Rattle.yuv_reports.proofs.Parts.{four_parts}
use Rattle.yuv_reports.proofs.csv.push_head.Goals as goal

pub returns : goal.returns
unfolding encode
returns c =
    let ssim = λ (there : Bool). if there then codes ",ssim,ssim_y,ssim_u,ssim_v" else [] in
    let sums = λ (there : Bool). if there then codes ",sse_y,sse_u,sse_v" else [] in
    let measures = c.args.measures.now in
    four_parts c.push.result (string_bytes c.args.text.now)
    (codes "frame,mse,mse_y,mse_u,mse_v,psnr,psnr_y,psnr_u,psnr_v")
    (ssim (is_some measures.ssim)) (sums (is_some measures.sums)) (10 ∷ [])
    (string_bytes c.push_str.new.self) (string_bytes c.push_where.new.text) (string_bytes c.push_where-2.new.text)
    (string_bytes c.push.new.self) c.in_ok-push_str.ensures.bytes
    (rw (← c.is_some.ensures) c.in_ok-push_where.ensures) (rw (← c.is_some-2.ensures) c.in_ok-push_where-2.ensures)
    c.push.ensures.bytes
