use Rattle.std.proofs.Common.{rules, ◌≡◌, [], All, arith, subst, sym}
use Rattle.std.proofs.lemmas.Grind.{common_steps}
use Rattle.std.proofs.lemmas.List.Elements.{All-push}
use Rattle.elsa_lock_free.specs.SharedList.{mine}
use Rattle.elsa_shards.proofs.lock_free.LockFreeShardedMap.handle.Goals as goal

pub loop-shard-preserved : goal.loop-shard-preserved
loop-shard-preserved g c = (
  search rules,
  grind (arith, common_steps),
  subst (All (λ v. (v.seen ≡ []) × (mine v ≡ []))) (sym c.in_ok-push.ensures.items) (All-push (λ v. (v.seen ≡ []) × (mine v ≡ [])) c.loop-shard.handles.items c.handle.result c.loop-shard.invariant.2 (c.handle.ensures.nothing_seen, c.handle.ensures.nothing_mine)),
)
