-- The line of the interlacing that the header states.
use Rattle.yuv_facts.proofs.info.text.push_interlacing.Goals as goal

pub returns : goal.returns
returns c = rw (c.in-Some.is, ← c.interlacing_name.ensures) c.push_fact.ensures
