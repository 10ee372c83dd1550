use Rattle.std.proofs.Common.{◌<◌, ap}
use Rattle.std.proofs.Math.Bridge.{le_prop}
use mathlib.Core.HLevel.{is_prop→PathP}
use Rattle.std.proofs.lemmas.Bool.Decides.{Decides-at, Decides-and, Decides-like, Decides-eqb}
use Rattle.v_frame_raster.proofs.tables.Equality.{buffers_decide, planes_decide, options_decide, formats_decide}
use Rattle.v_frame.proofs.laws.equality.frames_are_equal.Goals as goal

pub returns : goal.returns
returns g c =
    let a = c.args.a.now in
    let b = c.args.b.now in
    let planes = planes_decide g.T.PartialEq.eq (buffers_decide g.T.Pixel.form.value g.met.T.Pixel.one_value
    g.T.PartialEq.eq g.met.T.Pixel.eq_by_value) in
    let depths = Decides-eqb a.bit_depth.value b.bit_depth.value in
    let fields = Decides-and _ _ (planes a.y_plane b.y_plane)
    (Decides-and _ _ (options_decide planes a.u_plane b.u_plane)
    (Decides-and _ _ (options_decide planes a.v_plane b.v_plane)
    (Decides-and _ _ (formats_decide a.subsampling b.subsampling) depths))) in
    Decides-at c.eq.result _ c.eq.ensures
    (Decides-like _
    (λ e i. record {
      y_plane = e.0 i;
      u_plane = e.1.0 i;
      v_plane = e.1.1.0 i;
      subsampling = e.1.1.1.0 i;
      bit_depth = record {
        value = e.1.1.1.1 i;
        ok = is_prop→PathP (λ j. 0 < e.1.1.1.1 j) (λ j. le_prop) a.bit_depth.ok b.bit_depth.ok i;
      };
    })
    (λ e. (
      ap (λ f. f.y_plane) e,
      (
        ap (λ f. f.u_plane) e,
        (ap (λ f. f.v_plane) e, (ap (λ f. f.subsampling) e, ap (λ f. f.bit_depth.value) e)),
      ),
    ))
    fields)
