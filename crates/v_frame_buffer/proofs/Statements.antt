-- Compiled code in the form that a hand-written proof uses: statements and their operands.
use Rattle.v_frame_buffer.proofs.Steps.{ℕ, List, [], ◌∷◌, Ty, Callee, Local, Opd as Operand, assign, call, copy, local}
use Rattle.v_frame_buffer.proofs.Steps.{place, seq, value_local}
use mir.Syntax.{Body as Code, Rv}

abbrev pub in_order : List Code → Code → Code
in_order [] last = last
in_order (s ∷ ss) last = seq s (in_order ss last)

abbrev pub set : ℕ → Rv → Code
set i rv = assign (place i []) rv

abbrev pub value : ℕ → Operand
value i = copy (place i [])

abbrev pub gets : ℕ → Callee → List Operand → Code
gets i f xs = call f xs (place i [])

abbrev pub locals_of : List Ty → List Local
locals_of [] = []
locals_of (τ ∷ τs) = local τ value_local ∷ locals_of τs
