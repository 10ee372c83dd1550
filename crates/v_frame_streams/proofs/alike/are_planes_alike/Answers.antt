-- The error is 0 exactly if the tables are equal.
use Rattle.std.proofs.Common.{ℕ, ◌≡◌, ◌∙◌, All, ap, length, sym, subst, eq-eqb, eqb-true}
use Rattle.v_frame.specs.Prelude.{table_of}
use Rattle.v_frame_streams.proofs.NoErrors.{no_errors_where_same}
use Rattle.v_frame_streams.proofs.alike.are_planes_alike.Goals as goal

pub returns : goal.returns
returns g c =
    let first = table_of c.args.first.now in
    let second = table_of c.args.second.now in
    let width = c.width.result in
    let wide : c.width-2.result ≡ width =
    c.width-2.ensures.table ∙ sym (ap (λ (s : ℕ × ℕ). s.0) c.requires.sizes) ∙ sym c.width.ensures.table in
    let rows : All (λ row. length row ≡ width) second = subst (λ (w : ℕ). All (λ row. length row ≡ w) second) wide
    c.width-2.ensures.rows in
    let told = no_errors_where_same g.T.Pixel.form.value g.met.T.Pixel.one_value width first second
    c.width.ensures.rows rows (ap (λ (s : ℕ × ℕ). s.1) c.requires.sizes) in (
      λ none. told.0 (sym c.requires.errors ∙ eqb-true c.args.errors 0 none),
      λ same. eq-eqb c.args.errors 0 (c.requires.errors ∙ told.1 same),
    )
