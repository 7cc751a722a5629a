use Rattle.std.proofs.Common.{arith}
use Rattle.elsa_arena.proofs.Callable.{always_callable_at_refs}
use Rattle.elsa_arena.proofs.items.Items.partition_point.Goals as goal

pub partition_point-requires : goal.partition_point-requires
partition_point-requires g c = record { at_items = always_callable_at_refs g.F.FnMut _ _ c.requires.callable }

pub returns : goal.returns
returns g c = let low = c.obeys_invariant.ensures.limit in let within = c.partition_point.ensures.bracket.bracket.0 in record { limit = omega (arith, low, within) }
