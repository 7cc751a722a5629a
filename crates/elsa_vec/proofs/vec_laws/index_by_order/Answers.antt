use Rattle.elsa_arena.proofs.Bracketed.{said_by_index, splits_list}
use Rattle.elsa_arena.proofs.Callable.{always_callable_at_items}
use Rattle.elsa_vec.proofs.vec_laws.index_by_order.Goals as goal

pub binary_search_by-requires : goal.binary_search_by-requires
binary_search_by-requires g c = record { at_items = always_callable_at_items g.F.FnMut _ _ c.requires }

pub returns : goal.returns
returns g c = λ o always. let found = c.binary_search_by.ensures.bracket in splits_list _ _ o (said_by_index g.F.FnMut _ _ o always found.calls found.end found.in_turn) _ found.bracket
