use Rattle.elsa_arena.proofs.Bracketed.{said_by_item, splits, splits_list, within_list}
use Rattle.elsa_vec.proofs.vec.FrozenVecIn.binary_search_by.Goals as goal

pub binary_search_by-requires : goal.binary_search_by-requires
binary_search_by-requires g c = rw c.as_slice.ensures c.requires.at_items

pub returns-clause-bracket : goal.returns-clause-bracket
returns-clause-bracket g c = rw c.as_slice.ensures at c.binary_search_by.ensures.0

pub returns-clause-split : goal.returns-clause-split
returns-clause-split g c = λ said by_index in_order. splits _ _ _ _ said (returns-clause-bracket g c) by_index in_order

pub returns-clause-by_item : goal.returns-clause-by_item
returns-clause-by_item g c = λ o by_item. let found = returns-clause-bracket g c in splits_list _ _ o (said_by_item _ _ _ o by_item found.calls found.end found.in_turn) _ found.bracket

pub returns-clause-within : goal.returns-clause-within
returns-clause-within g c = within_list _ _ _ _ (returns-clause-bracket g c)
