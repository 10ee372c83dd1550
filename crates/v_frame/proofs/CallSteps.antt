-- Re-exports the steps of a hand-written proof at the entry of a function, at a call and at the return. Declares
-- nothing.
pub use Rattle.v_frame_buffer.proofs.CallSteps.{asks_that, both_facts, calls, calls_last, ends, opened, opened_by}
pub use Rattle.v_frame_buffer.proofs.CallSteps.{read_twice, spelt, tells, told, unit_fits}
