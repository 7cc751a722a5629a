use Rattle.std.proofs.Common.{◌≡◌, length, ap, subst, arith}
use Rattle.elsa_shards.proofs.MomentLemmas.{visited}
use Rattle.elsa_shards.specs.Shards.{AtMoments, count_in_all}
use Rattle.elsa_shards.proofs.map.ShardedMap.len.Goals as goal

pub loop-shard-preserved : goal.loop-shard-preserved
loop-shard-preserved g c =
    let before = c.loop-shard in
    let at = c.len.ensures in
    visited g.K.PartialEq.eq g.R.EntryRule.holds before.shard-index before.sum c.len.result c.saturating_add-sum.result before.invariant at.0 at.1 at.3 at.4 c.saturating_add-sum.ensures

pub returns : goal.returns
returns g c =
    let count = ap (λ view. view.0) c.self.view_is in
    let all : c.loop-shard.shard-index ≡ c.args.self.now.0 = omega (arith, c.loop-shard.auto.shard-index-end, c.loop-shard-test.false, c.deref-shard-items.ensures.len, count) in
    subst (λ n. AtMoments g.K.PartialEq.eq g.R.EntryRule.holds n (λ shards. c.loop-shard.sum ≡ count_in_all length shards)) all c.loop-shard.invariant
