-- The buffer has the number of empty entries that the geometry requires.
use Rattle.std.proofs.Common.{None, length, refl, ap, ◌∙◌}
use Rattle.std.proofs.lemmas.List.{length-replicate}
use Rattle.v_frame_plane.proofs.plane.Plane.new_uninit.Goals as goal

pub invariant_of-result : goal.invariant_of-result
invariant_of-result g c = record {
  fits = c.requires;
  whole = ap length c.in_ok-buffer.ensures.entries ∙ length-replicate c.alloc_size.result None ∙ c.alloc_size.ensures;
}

pub returns : goal.returns
returns g c = rw (c.in_ok-buffer.ensures.entries, c.alloc_size.ensures) refl
