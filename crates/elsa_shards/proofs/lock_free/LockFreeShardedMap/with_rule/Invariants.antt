use Rattle.std.proofs.Common.{◌≡◌, length}
use Rattle.elsa_shards.proofs.lock_free.LockFreeShardedMap.with_rule.Given as goal

-- There is one shard for each iteration.
abbrev pub invariant-loop : goal.invariant-loop
invariant-loop g l = length l.shards.items ≡ l.counter
