-- The names of the logic that hand-written proofs cite, here and in the crates above, re-exported from one place.
-- Declares nothing.
pub use Prim.Native.Nat.{suc}
pub use Rattle.core.proofs.alloc.Calls.{Al, Answer-typed, Answered, Gives, Gives-Gives, Gives-goes, Goes-blank, Takes}
pub use Rattle.core.proofs.alloc.Calls.{Takes-gives, Takes-goes, answers, at_gives, at_takes, token}
pub use Rattle.core.proofs.mem.Param.{El, R, elτ}
pub use Rattle.core.proofs.ptr.Rows.{el_out, one_more, times_below}
pub use Rattle.core.proofs.slots.Leases.{P, args, block_align, block_size, block_ty, uncapped}
pub use Rattle.std.proofs.Common.{ℕ, ◌≡◌, ◌+◌, ◌-◌, ◌*◌, ◌^◌, ◌<◌, ◌≤◌, List, [], ◌∷◌, ◌++◌, length, take}
pub use Rattle.std.proofs.Common.{drop as list_drop, Option, Some, None, lit<, w64, MutBor, refl, sym, ap, ◌∙◌, arith}
pub use Rattle.std.proofs.Common.{length-drop, append_assoc, length-take-le, All, append-nil, length-append, map}
pub use Rattle.std.proofs.Common.{slice_get, slice_set, zero}
pub use Rattle.std.proofs.alloc.Shapes.{after}
pub use Rattle.std.proofs.lemmas.List.{drop-drop, drop-take, get_or-map, length-set, map-append, nil_from_length}
pub use Rattle.std.proofs.lemmas.List.{take-take}
pub use Rattle.std.proofs.lemmas.List.Elements.{All-head, All-tail}
pub use Rattle.std.proofs.option.Made.{Some-of, none_of}
pub use Rattle.std.proofs.raw_atomic.Walks.{proved, leaves, proved_at}
pub use Rattle.std.specs.Iterator.{MakesProgress, YieldsFirstMut, YieldsLastMut, item_count}
pub use Rattle.std.specs.List.{SameBelow, TailFrom, refill}
pub use Rattle.std.specs.Mem.{type_size}
pub use Rattle.std.specs.Prelude.{⊤, Err, Ok, ◌==◌, count_by, nat_lt}
pub use Rattle.std_alloc.proofs.RawLayout.{as_raw, as_written}
pub use Rattle.std_alloc.proofs.RcSteps.{word, word-Good}
pub use Rattle.std_alloc.proofs.VecSteps.Shapes.{arm_body, head, inside}
pub use base.Fml.{Fml, Lft, Share, fat, fauth, fbor, fex, flent, flft, fobor, fobs, fsep, ftrue, GName, Incl, Incl-refl}
pub use base.Fml.{Incl-trans, fdead, ffalse, fres, froom}
pub use base.Fraction.{full_share}
pub use base.Logic.{SProp, all, all_e, apply∗, emp, ent, id⊢, sep, wand, fst∗, never, via, assoc', assoc∗, comm∗, emp∗}
pub use base.Logic.{mono_l, mono_r, snd∗}
pub use borrow.Table.Elements.{at_mul, cut_app, join_app}
pub use borrow.Table.OneValue.{part_in, part_in_at, part_out_at}
pub use contract.BorrowLft.{◌⊑◌, ⊑_trans, meet_⊑_left, meet_⊑_right, ⊑_meet, ⊑_refl}
pub use contract.Lifetimes.{AllOutlive, Lfts, Shares, toks}
pub use contract.Monad.{Fun, fact, fact_i, fact_use, top}
pub use contract.Running.{tables, MachineTables, Running}
pub use denote.Array.{Array}
pub use denote.Builtin.{usize, RefOf}
pub use denote.Exit.{yes, no, left}
unfoldable pub use denote.Follow.{both_by, follows_both}
pub use denote.Follow.{follows, follows_if, follows_then}
pub use denote.Laws.{shows, Is, Typed}
pub use denote.Lend.{lends_ref, lends_shr, ref_back}
pub use denote.Memory.{cell_at, mem, hidden_shr, lone, part_at, shared_of}
pub use denote.Opens.{hide, shr_dup, unhide}
pub use denote.Param.{param, layouts, arg, bounded, layout}
pub use denote.Param.Laws.{Laws, param_laws, arg_laws, of_field, row_shared}
pub use denote.Param.Send.{Common, IsSend, IsSync, owning_send, part_keyless, sendable, struct_sync}
pub use denote.Param.Shared.{copy_shared, mut_slice_shared}
pub use denote.Plain.{uint_vals, uint_Makes, uint_Tells}
pub use denote.RattleType.{RattleType, Valss, RowLaws, owns, Denots}
pub use denote.RawPtr.{Ptr, RawPtr, block_ptr, in_a_block, null_ptr, ptr_val}
pub use denote.Ref.{MutRef, NamedLft, mut_vals, mut_Tells, Bor, ShrRef, mut_Lawful, shr_Tells, shr_vals}
pub use denote.Sharing.{ShrLaws, beside, said}
pub use denote.SharingLaws.{beside_shr_laws, nothing_shr_laws, said_shr_laws}
pub use denote.Signature.{plain, named_lft, types_at, Signature, Slot, type_at}
pub use denote.Slice.{MutSlice, slice_ty, slice_val, mut_slice_vals, mut_slice_Tells, elements_shared, mut_slice_Lawful}
pub use denote.Steps.{closes, heard, nothing, only, opens, owned, peeks}
pub use denote.Struct.Declared.{shape}
pub use denote.Struct.Laws.{field_copy, mut_slice_laws}
pub use denote.Struct.Lending.{Lends, Lends-both, Lends-false, Lends-first, Lends-nothing, Lends-said, of_Lends}
pub use denote.Struct.Owning.{to}
pub use denote.Struct.Struct.{within, Struct, Struct-Makes}
pub use denote.Struct.Tuple.{Tuple, tuple_type}
pub use denote.Triple.Call.{calls_at, calls_at_last}
pub use denote.Triple.Clauses.{Clauses, Lasts, at_exit, lasts, Ended, closing}
pub use denote.Triple.End.{Fins, Kepts, lasts_of}
pub use denote.Triple.Entry.{Args, alive, on_entry, Res}
pub use denote.Triple.Spec.{triple_of, Meets}
pub use denote.Triple.Statement.{Contract, Triple}
pub use denote.Triple.Table.{framed}
pub use denote.Triple.Walked.{Stays, stay_ref, Goes-ref, walk_of, ends_at, stay_dropped, Goes-dropped, Goes-spent_slice}
pub use denote.Triple.Walked.{Goes-spent_ref, says, Fit, has_of}
pub use lib.Dec.{eqb→eq, T, T_not, eqb, leb→le, ltb→lt, nleb→lt, nltb→le}
pub use lib.ListN.{length-take, take-append-drop}
pub use mathlib.Core.Bool.{Bool, false, not, true}
pub use mathlib.Core.Path.{subst}
pub use mir.MapTy.{inst_fn}
pub use mir.Syntax.{Ty, Tys, a_type, erased, mut, named, tcons, tnil, ty_int, ty_param, ty_ptr, ty_ref, ty_struct}
pub use mir.Syntax.{Callee, Dict, Fn, Lifetime, Local, Opd, Place, Sym, addr_of, aggregate, arm, assign, call, cond}
pub use mir.Syntax.{copy, dcons, deref, dnil, eq, field, imm, int, local, lt, no_default, op2, opd_unit, place, return}
pub use mir.Syntax.{rv_opd, seq, skip, switch, ttcons, ttnil, ty_array, ty_bool, ty_enum, ty_unit, unsigned}
pub use mir.Syntax.{value_local, variant, w8}
pub use mir.Val.{Val, Vals, of_list, vcons, vint, vnil, vptr, vstruct, Fits, WT, has_ty, vunit}
pub use native.Mathlib.Nat.{add_comm, suc-mul, zero-add, zero-mul}
pub use prog.Capped.{capped_fits}
pub use prog.Memory.{Memory, align, capped, size}
pub use prog.Model.{Model}
pub use prog.Routine.{Routine}
pub use prog.Wp.{Calls, Closed, Env, Loops, Out, Wp, WpFn, after_block, after_seq, at_return}
pub use seplogic.Ra.Ura.{Ura}
pub use sound.WpLaws.{FmC}
pub use types.ByLocal.{alloc_all, env, free_all, get, get_in, lands_as, look_at, look_in_at, pass_all, sets, through}
pub use types.ByLocal.{at, forget_but, get_tag, give_at, holding, is, lands_last, sets_last, take_at}
pub use types.Kit.{Goal, Item, Seq, Soaks, Step, step, ‵, raw, ◌⊛◌, some, later, prop, at_ret, ◌$◌, ◌∵◌, !, qed, assume}
pub use types.Kit.{await, done, drop, each, feq_i, feq_l, fjoin, fjoin3, fpack, fpick, frame, fsplit, fsplit3, join}
pub use types.Kit.{keep, move, pick, rewrite, split, split3, suffices, use0, use1, use2, use3, group, mean, Go, Post}
pub use types.Kit.{Sq, any_q, by, flt_i, flt_l, given, lands, learn, nth, post, regoal, runs, ⋆, ++⊢, pop, push, sel}
pub use types.Kit.{sel⊢, settles}
pub use types.Logic.{Logic, sem}
pub use types.Match.{live, in_variant, vrt}
pub use types.Part.{agg, look_in, store_in, sub, whole, Part}
pub use types.Run.{addr, and_then, assigns, bin, branches, enter, exec, first, fld, from, hop, lit, load, no_more}
pub use types.Run.{of_opd, returns, returns_within, skips, stop, well_typed, Below, Finds, Opds, Rv, again, align_word}
pub use types.Run.{assigns_last, blocks, forget, init, jumps, look, loops, size_lit, size_word, store_raw, switches_on}
pub use types.Run.{unit_lit}
pub use types.SemTy.{Body, cells}
pub use types.Tokens.{lent_back, lft-common, lft_end, lft_new}
