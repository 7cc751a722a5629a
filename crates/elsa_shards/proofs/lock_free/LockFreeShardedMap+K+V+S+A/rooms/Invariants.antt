use Rattle.std.proofs.Common.{◌≡◌, length, map, sum_by, take}
use Rattle.elsa_shards.proofs.lock_free.LockFreeShardedMap+K+V+S+A.rooms.Given as goal

-- The rooms are those of the shards that were visited, in order, and the sum is of their lengths.
abbrev pub invariant-loop-map : goal.invariant-loop-map
invariant-loop-map g l = (length l.rooms.items ≡ l.map-index) × (map (λ room. room.vector) l.rooms.items ≡ take l.map-index l.map-items)
    × (l.total ≡ sum_by (λ room. length room.seen) l.rooms.items)
