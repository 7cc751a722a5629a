use Rattle.elsa_arena.proofs.Bracketed.{parts, parts_list, said_by_item}
use Rattle.elsa_arena.proofs.observed.Observed.partition_point.Goals as goal

pub returns-clause-bracket : goal.returns-clause-bracket
returns-clause-bracket g c = c.part_by.ensures.0

pub returns-clause-split : goal.returns-clause-split
returns-clause-split g c = λ said by_index in_order. parts _ _ _ _ said (returns-clause-bracket g c) by_index in_order

pub returns-clause-by_item : goal.returns-clause-by_item
returns-clause-by_item g c = λ test by_item in_order. let found = returns-clause-bracket g c in parts_list _ _ test (said_by_item _ _ _ test by_item found.calls found.end found.in_turn) _ found.bracket in_order
