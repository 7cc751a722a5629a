use Rattle.std.specs.Ordering.{eq_by_cmp}
use Rattle.elsa_tables.specs.FirstWins.{IsCollected}
use Rattle.elsa_locks.specs.Shared.{shown}
use Rattle.elsa_locks.proofs.map.ordered_state.State+K+V+BTreeMap+K+Arc+V+A+A+A.from_iter.Given as goal

-- The table has the last value of each key so far.
abbrev pub invariant-loop-key : goal.invariant-loop-key
invariant-loop-key g l = IsCollected (eq_by_cmp g.K.Ord.cmp) l.yielded (shown l.table.entries)
