use Rattle.std.proofs.Common.{◌≡◌}
use Rattle.elsa_locks.proofs.map.ordered_state.State+K+V+BTreeMap+K+Arc+V+A+A+A+R.into_tuple_vec.Given as goal

-- The pairs so far are those that the tree's iterator returned.
abbrev pub invariant-loop-pair : goal.invariant-loop-pair
invariant-loop-pair g l = l.pairs.items ≡ l.yielded
