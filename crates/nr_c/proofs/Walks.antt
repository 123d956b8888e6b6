-- The words that a walk through code is written with, passed on from one place. Declares nothing.
pub use Prim.Native.Nat.{ℕ}
pub use Rattle.std.proofs.VecSteps.Shapes.{after}
pub use Rattle.std.proofs.alloc.Calls.{Goes-blank, handle_tells, token, α}
pub use Rattle.std_alloc.proofs.BoxSteps.Form.{B, Bx, D, P, R, X, args, box_ty, box_typed, handle, owning, word, τ}
pub use Rattle.std_alloc.proofs.BoxSteps.Steps.{box_in, box_out}
pub use Rattle.std_alloc.specs.Box.Ownership.{box_owns}
pub use base.Fml.{Fml, GName, Lft, Share, flft, fsep, ftrue}
pub use base.Fraction.{full_share}
pub use base.Logic.{SProp, emp, ent, fst∗, guard_i, id⊢, never, never_e, sep, via}
pub use contract.BorrowLft.{◌⊑◌}
pub use contract.Monad.{Fun, fact, fact_i, fact_use}
pub use contract.Running.{Running, tables}
unfoldable pub use contract.Running.{tables_of}
pub use denote.Builtin.{RefMutOf, bool}
pub use denote.Exit.{Kept, no, yes}
pub use denote.Follow.{Part, follows, lends_Part}
pub use denote.Memory.{cell_at, mem, part_at}
unfoldable pub use denote.Memory.{part_of}
pub use denote.Param.{bounded, layouts, param}
pub use denote.RattleType.{RattleType, Valss, owns}
pub use denote.RawPtr.{Ptr, RawPtr, Testable, block_ptr, in_a_block, null_ptr, ptr_val, tests_null}
pub use denote.Ref.{MutRef, mut_Tells, mut_vals}
pub use denote.Signature.{mut_ref_to, plain, type_at}
pub use denote.Steps.{closes, heard, nothing, only, opens, owned}
pub use denote.Struct.Owning.{shape}
pub use denote.Struct.Struct.{within}
pub use denote.Triple.Call.{calls_at, calls_at_last}
pub use denote.Triple.Clauses.{Clauses, Ended, closing}
pub use denote.Triple.Entry.{on_entry}
pub use denote.Triple.Spec.{Meets, triple_of}
pub use denote.Triple.Statement.{Contract, Triple}
pub use denote.Triple.Table.{entered, run_framed}
pub use denote.Triple.Walked.{Goes-dropped, Goes-ref, Goes-spent_ref, Silent, Stays, ends_at, says, stay_dropped}
pub use denote.Triple.Walked.{stay_ref, walk_Meets, walk_of, walked}
pub use lib.Dec.{T, lit<}
pub use mathlib.Core.List.{List, [], ◌++◌, ◌∷◌}
pub use mathlib.Core.Path.{ap, refl, subst, sym, ◌∙◌, ◌≡◌}
pub use mir.MapTy.{inst_fn}
pub use mir.Syntax.{Args, Body, Dict, Fn, Ty, a_type, addr_of, assign, block, copy, dcons, deref, dnil, erased, impl}
pub use mir.Syntax.{local, mut, named, place, return, rv_opd, seq, tnil, ty_ptr, ty_ref, value_local}
pub use mir.Val.{Val, WT, has_ty, of_list, vbool, vcons, vnil, vnull, vptr, vstruct}
pub use prog.Memory.{Memory}
pub use prog.Model.{Model}
pub use prog.Routine.{Callee, Routine}
pub use prog.Wp.{Calls, Closed, Env, Loops, Tables, WpFn}
pub use seplogic.Ra.Ura.{Ura}
pub use sound.WpLaws.{WpFn-mono, fm_of}
pub use types.ByLocal.{alloc_all, env, free_all, get, get_in, lands_as, lands_last, look_at, pass_all, sets, sets_last}
pub use types.ByLocal.{through}
pub use types.Kit.{Item, !, at_ret, await, by, done, drop, feq_i, feq_l, fjoin, fpack, fpick, frame, fsplit, fsplit3}
pub use types.Kit.{given, group, join, keep, later, learn, move, pick, qed, raw, rewrite, some, split, split3, suffices}
pub use types.Kit.{use0, use1, ‵, ◌$◌, ◌∵◌, ◌⊛◌}
pub use types.Logic.{Logic, sem}
pub use types.Part.{agg, look_in, sub, whole}
pub use types.Run.{addr, and_then, bin, blocks, enter, exec, first, fld, lit, load, no_more, of_opd, returns, stop, un}
