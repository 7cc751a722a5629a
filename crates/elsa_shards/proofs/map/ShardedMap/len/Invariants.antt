use Rattle.std.proofs.Common.{◌≡◌, length}
use Rattle.elsa_shards.specs.Shards.{AtMoments, count_in_all}
use Rattle.elsa_shards.proofs.map.ShardedMap.len.Given as goal

-- The sum is that of the shards that were visited.
abbrev pub invariant-loop-shard : goal.invariant-loop-shard
invariant-loop-shard g l = AtMoments g.K.PartialEq.eq g.R.EntryRule.holds l.shard-index (λ shards. l.sum ≡ count_in_all length shards)
