-- The buffer has the number of zeros that the geometry requires.
use Rattle.std.proofs.Common.{length, refl, ap, ◌∙◌}
use Rattle.std.proofs.lemmas.List.{length-replicate}
use Rattle.v_frame_plane.proofs.plane.Plane.new.Goals as goal

pub invariant_of-result : goal.invariant_of-result
invariant_of-result g c = record {
  fits = c.requires;
  whole = ap length c.in_ok-buffer.ensures.copies ∙ length-replicate c.alloc_size.result c.ZERO.result ∙
      c.alloc_size.ensures;
}

pub returns : goal.returns
returns g c = rw (c.in_ok-buffer.ensures.copies, c.alloc_size.ensures, c.ZERO.ensures) refl
