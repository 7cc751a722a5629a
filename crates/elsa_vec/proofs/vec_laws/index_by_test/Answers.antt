use Rattle.elsa_arena.proofs.Bracketed.{parts_list, said_by_index}
use Rattle.elsa_arena.proofs.Callable.{always_callable_at_items}
use Rattle.elsa_vec.proofs.vec_laws.index_by_test.Goals as goal

pub partition_point-requires : goal.partition_point-requires
partition_point-requires g c = record { at_items = always_callable_at_items g.F.FnMut _ _ c.requires }

pub returns : goal.returns
returns g c = λ test always falls. let found = c.partition_point.ensures.bracket in parts_list _ _ test (said_by_index g.F.FnMut _ _ test always found.calls found.end found.in_turn) _ found.bracket falls
