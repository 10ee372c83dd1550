-- The list has one call from the front for each pixel.
use Rattle.std.proofs.Common.{◌+◌, min, ap}
use Rattle.v_frame.specs.Prelude.{table_of, tables_of, with_table}
use Rattle.example_callers.proofs.pictures.brighten.Goals as goal

pub returns-in-Ok-clause-tables : goal.returns-in-Ok-clause-tables
returns-in-Ok-clause-tables c =
    rw (c.in-Ok.ensures.tables, c.into.ensures, c.in_ok-draws.ensures) (ap (with_table (tables_of c.args.frame.now) 0)
    (c.full_iterations_change_each_pixel.ensures (table_of c.args.frame.now.y_plane) c.width-width.result
    c.width-width.ensures.rows
    (λ pixel. min (pixel + c.args.by) 255)))
