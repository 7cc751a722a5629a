use Rattle.std.proofs.Common.{◌≡◌, [], All, length, map, take}
use Rattle.elsa_lock_free.specs.SharedList.{mine}
use Rattle.elsa_shards.proofs.lock_free.LockFreeShardedMap.handle.Given as goal

-- The handles are those of the shards that were visited, in order, and have observed nothing.
abbrev pub invariant-loop-shard : goal.invariant-loop-shard
invariant-loop-shard g l = (length l.handles.items ≡ l.shard-index) × (map (λ v. v.vector) l.handles.items ≡ take l.shard-index l.shard-items) × All (λ v. (v.seen ≡ []) × (mine v ≡ [])) l.handles.items
