-- The copied text is the parameter.
use Rattle.std.proofs.Common.{List, ℕ, subst, sym}
use Rattle.v_frame_y4m.specs.Faults.{HasFault}
use Rattle.v_frame_y4m.specs.declared.error.HeaderError.TheVariants.{Malformed}
use Rattle.v_frame_y4m.proofs.parameters.malformed.Goals as goal

pub returns-in-Ok : goal.returns-in-Ok
returns-in-Ok c = λ parameters fault. subst (λ (b : List ℕ). HasFault parameters (Malformed (record { bytes = b })))
    (sym c.in-Ok.ensures) fault
