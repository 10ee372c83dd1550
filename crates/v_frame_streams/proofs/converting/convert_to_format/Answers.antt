-- The tables of a conversion, by the sizes of the tables.
use Rattle.std.proofs.Common.{◌∙◌, ap, subst, sym}
use Rattle.v_frame.specs.Prelude.{tables_of}
use Rattle.v_frame_planar.specs.Planar.{sizes_of}
use Rattle.v_frame_streams.specs.Conversions.{format_of, in_format, sizes_laid_out, FormatsFit}
use Rattle.v_frame_streams.specs.Pictures.{Sizes}
use Rattle.v_frame_streams.proofs.Formatting.{format_kept, frames_fit, sizes_kept, tables_by_format}
use Rattle.v_frame_streams.proofs.converting.convert_to_format.Goals as goal

pub convert_frame-requires : goal.convert_frame-requires
convert_frame-requires g c =
    let source = c.args.source.now in
    let target = c.args.target.now in
    let by_source = subst (λ (s : Sizes). FormatsFit g.S.Pixel.BYTES g.T.Pixel.BYTES (format_of source) (format_of target)
    s (sizes_of (tables_of target))) c.sizes_are_laid_out.ensures c.requires in
    let fits = frames_fit g.S.Pixel.BYTES g.T.Pixel.BYTES source target
    (subst (λ (s : Sizes). FormatsFit g.S.Pixel.BYTES g.T.Pixel.BYTES (format_of source) (format_of target)
    (sizes_laid_out source) s) c.sizes_are_laid_out-2.ensures by_source) in
    (c.type_bounds.static-S, (c.type_bounds.static-T, fits))

pub returns-clause-shown : goal.returns-clause-shown
returns-clause-shown g c =
    let source = c.args.source.now in
    let target = c.args.target.now in
    c.convert_frame.ensures.tables ∙ tables_by_format g.S.Pixel.form g.T.Pixel.form source target
    ∙ ap (λ (s : Sizes). in_format g.S.Pixel.form g.T.Pixel.form (format_of source) (format_of target) s
    (tables_of source)) (sym c.sizes_are_laid_out-2.ensures)

pub returns-clause-format : goal.returns-clause-format
returns-clause-format g c = format_kept c.args.target.now _ c.convert_frame.ensures.borders

pub returns-clause-sizes : goal.returns-clause-sizes
returns-clause-sizes g c =
    c.sizes_are_laid_out-3.ensures ∙ sizes_kept c.args.target.now _ c.convert_frame.ensures.borders
    ∙ sym c.sizes_are_laid_out-2.ensures
