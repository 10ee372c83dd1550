-- The whole buffer is lent.
use Rattle.std.proofs.Common.{length, refl, ap, ◌∙◌}
use Rattle.v_frame_plane.proofs.tables.Kept.{whole_refilled}
use Rattle.v_frame_plane.proofs.plane.Plane.data_mut.Goals as goal

pub invariant_of-self-lent : goal.invariant_of-self-lent
invariant_of-self-lent g c = λ w. whole_refilled c.self.inside.geometry c.self.inside.buffer w c.self.invariant

pub returns : goal.returns
returns g c =
    let value = c.as_mut_slice.ensures.value in
    rw (← c.self.view_is) (
      (refl, λ w. refl),
      record
          { writes_back = tt; value = value; whole = ap length value ∙ c.self.invariant.whole },
    )
