use Rattle.std.proofs.Common.{◌≡◌}
use Rattle.elsa_locks.proofs.map.hashed_state.State+K+V+HashMap+K+Arc+V+A+BuildHasherDefault+FoldHasher+A+A+R.into_tuple_vec.Given as goal

-- The pairs so far are those that the table's iterator returned.
abbrev pub invariant-loop-pair : goal.invariant-loop-pair
invariant-loop-pair g l = l.pairs.items ≡ l.yielded
