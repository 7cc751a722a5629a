use Rattle.std.proofs.Common.{◌≡◌, take}
use Rattle.elsa_shards.specs.Shards.{seen_in_all}
use Rattle.elsa_shards.proofs.lock_free.ShardedHandle.seen_len.Given as goal

-- The sum is that of the views that were visited.
abbrev pub invariant-loop-handle : goal.invariant-loop-handle
invariant-loop-handle g l = l.sum ≡ seen_in_all (take l.handle-index l.handle-items)
