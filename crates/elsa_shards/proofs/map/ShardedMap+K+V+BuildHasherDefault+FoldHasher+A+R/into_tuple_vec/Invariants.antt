use Rattle.std.proofs.Common.{◌≡◌, ℕ, ◌+◌, flat_map, length}
use Rattle.std.specs.Vec.Iter.{into_iter_items}
use Rattle.elsa_locks.specs.Shared.{shown}
use Rattle.elsa_shards.specs.Shards.{AtMoments}
use Rattle.elsa_shards.proofs.map.ShardedMap+K+V+BuildHasherDefault+FoldHasher+A+R.into_tuple_vec.Given as goal

-- The pairs are those of the shards that were taken apart, shard after shard.
abbrev pub invariant-loop-shard : goal.invariant-loop-shard
invariant-loop-shard g l = (count : ℕ) × (count + length (into_iter_items l.shard-iterator) ≡ length (into_iter_items l.initial.shard-iterator))
    × AtMoments g.K.PartialEq.eq g.R.EntryRule.holds count (λ shards. shown l.pairs.items ≡ flat_map (λ entries. entries) shards)
