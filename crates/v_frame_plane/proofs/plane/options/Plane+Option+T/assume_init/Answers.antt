-- The number of values is the number of entries that held them.
use Rattle.std.proofs.Common.{length, ap, ◌∙◌}
use Rattle.std.proofs.lemmas.List.{length-map}
use Rattle.v_frame_plane.proofs.plane.options.Plane+Option+T.assume_init.Goals as goal

pub invariant_of-result : goal.invariant_of-result
invariant_of-result g c = record {
  fits = c.self.invariant.fits;
  whole = (simp length-map at (ap length c.in-Ok.ensures.values)) ∙ c.self.invariant.whole;
}

pub returns-in-Ok-clause-values : goal.returns-in-Ok-clause-values
returns-in-Ok-clause-values g c = rw (c.in-Ok.ensures.values) c.self.view_is

pub into_values-requires : goal.into_values-requires
into_values-requires g c = rw (← c.self.view_is) at c.requires

pub invariant_of-result-in-Err : goal.invariant_of-result-in-Err
invariant_of-result-in-Err g c = rw (c.in-Err.ensures.kept) c.self.invariant

pub returns-in-Err-clause-kept : goal.returns-in-Err-clause-kept
returns-in-Err-clause-kept g c = rw (c.in-Err.ensures.kept) c.self.view_is
