use Rattle.std.proofs.Common.{◌+◌, length, ap, arith}
use Rattle.elsa_locks.specs.Shared.{shown}
use Rattle.elsa_shards.proofs.MomentLemmas.{joined_arcs, none_joined}
use Rattle.elsa_shards.proofs.map.ShardedMap+K+V+BuildHasherDefault+FoldHasher+A+R.into_tuple_vec.Goals as goal

pub loop-shard-init : goal.loop-shard-init
loop-shard-init g c = (0, omega arith, none_joined g.K.PartialEq.eq g.R.EntryRule.holds (shown c.new-pairs.result.items) (ap (λ l. shown l) c.new-pairs.ensures.items))

pub loop-shard-preserved : goal.loop-shard-preserved
loop-shard-preserved g c =
    let was = c.loop-shard.invariant in let step = c.in-Some.ensures.steps in let entries = c.in_ok-entries in (
      was.0 + 1,
      omega (arith, was.1, ap length step.0),
      joined_arcs g.K.PartialEq.eq g.R.EntryRule.holds was.0 c.loop-shard.pairs.items c.append.new.self.items entries.entries.items was.2 entries.ensures.distinct entries.ensures.rule c.in_ok-append.ensures.items,
    )
