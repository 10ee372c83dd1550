-- The visible rows lie one stride apart, beginning at the origin.
use Rattle.v_frame_raster.proofs.tables.Strides.{visible_fit, visible_are}
use Rattle.v_frame_plane.proofs.plane_ref.PlaneRef.as_rows_ref.Goals as goal

pub of_parts-requires : goal.of_parts-requires
of_parts-requires g c =
    let k = c.self.inside in
    rw (c.split_at.ensures.back, c.width.ensures.value, c.height.ensures.value)
    (visible_fit k.geometry k.buffer.now c.data_origin.result c.stride.result c.data_origin.ensures.value
    c.stride.ensures
    c.width.ensures.valid c.self.invariant.whole)

pub returns-clause-value : goal.returns-clause-value
returns-clause-value g c =
    let k = c.self.inside in
    rw (
      ← c.self.view_is,
      c.of_parts.ensures.value,
      c.split_at.ensures.back,
      c.width.ensures.value,
      c.height.ensures.value,
    )
    (visible_are k.geometry k.buffer.now c.data_origin.result c.stride.result c.data_origin.ensures.value
    c.stride.ensures
    c.width.ensures.valid c.self.invariant.whole)
