-- The names of the logic that hand-written proofs about kept rows and pixels cite, re-exported from one place.
-- Declares nothing.
pub use Rattle.std.proofs.Common.{replicate}
pub use Rattle.std.proofs.Math.Nat.{mul-le-mul_right}
pub use Rattle.std.proofs.alloc.Shapes.{arm_body}
pub use Rattle.std.proofs.lemmas.List.{length-replicate}
pub use Rattle.std.proofs.option.Option.TheLaws.{the_row_laws as option_laws}
pub use Rattle.std.specs.Option.{option_copied_mut}
pub use Rattle.std.specs.contracts.option.Option.{the_row as option_row}
pub use base.Fml.{fhide}
unfoldable pub use contract.Running.{tables_of}
pub use denote.Builtin.{SliceRefOf}
pub use denote.FollowSlice.{finally-res}
pub use denote.Param.{copied}
pub use denote.Param.Shared.{mut_ref_shared}
pub use denote.Slice.{shr_slice_vals}
pub use denote.Struct.Field.{mut_ref_field}
pub use denote.Struct.Laws.{mut_ref_laws}
pub use denote.Triple.Bound.{Bound}
pub use lib.WfN.{lt-wf_rel}
pub use mir.Syntax.{w64}
unfoldable pub use prog.Wp.{after_turn}
pub use prog.Wp.{spot_of}
