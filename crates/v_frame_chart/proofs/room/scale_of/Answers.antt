-- The scale passed the test, or it is from minus infinity to infinity.
use Rattle.std.proofs.Common.{sym, ◌∙◌}
use Rattle.v_frame_chart.proofs.Extents.{endless_room, passed}
use Rattle.v_frame_chart.proofs.room.scale_of.Goals as goal

pub returns-then-is_between : goal.returns-then-is_between
returns-then-is_between c =
    passed c.if-high-low.scale c.args.series.now _ _ c.extent-low.ensures.least c.extent-low.ensures.most
    (sym c.if-is_between.true ∙ c.is_between.ensures)

pub returns-else-is_between : goal.returns-else-is_between
returns-else-is_between c =
    endless_room c.endless.result c.args.series.now c.endless.ensures.low c.endless.ensures.high
