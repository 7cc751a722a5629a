-- The names of the logic that the manual proofs of this crate use.
pub use base.Fml.{fsep, feq, fhide, ftrue}
pub use base.Growing.{latest}
pub use base.Logic.{SProp, emp, via}
pub use base.Share.{three_quarters}
pub use contract.Monad.{fact_i, fact}
pub use contract.Running.{tables}
pub use denote.Builtin.{unit, RefOf, usize}
pub use denote.Exit.{yes, no}
pub use denote.Memory.{hidden_shr}
pub use denote.Opens.{unhide}
pub use denote.Param.{param, bounded}
pub use denote.Plain.{uint_vals, uint_Tells}
pub use denote.RattleType.{owns, RattleType, Valss}
pub use denote.Ref.{shr_vals, shr_Tells}
pub use denote.Signature.{types_at, plain}
pub use denote.Steps.{nothing}
pub use denote.Struct.Lending.{lent_out}
pub use denote.Struct.Tuple.{Tuple}
pub use denote.Triple.Walked.{Stays, walk_of, stay_dropped, Goes-dropped}
pub use mir.MapTy.{inst_fn}
pub use mir.Syntax.{a_type, dcons, dnil, named}
pub use mir.Val.{Val, vptr, vstruct, vcons, vnil, of_list, vint}
pub use types.ByLocal.{alloc_all, pass_all, free_all, look_at, get, sets, env}
pub use types.Keyed.{tickets_from}
pub use types.Kit.{‵, raw, ◌⊛◌, some, later, ◌$◌, ◌∵◌, !, qed, by, keep, split, fjoin, pick, use0, await, move, fsplit, given, fpack, learn, use2, feq_i, drop, use1, fjoin3, rewrite, fpick}
pub use types.Owned.{basic}
pub use types.Part.{agg}
pub use types.Run.{no_more, and_then, returns, enter}
pub use Rattle.atomic_table.proofs.Walks.{proved}
pub use Rattle.logbook.proofs.Fields.{token, Token, token_made, ends, token_told}
pub use Rattle.logbook.specs.Kept.{offer_owns, rules, seen_owns}
pub use Rattle.std.proofs.Common.{ℕ, [], ◌∷◌, refl, List, None, ◌++◌, suc, arith, ◌≡◌, ◌+◌, length, sym, w64}
