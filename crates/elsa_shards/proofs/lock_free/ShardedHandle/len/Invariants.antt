use Rattle.elsa_shards.specs.Shards.{AllContinue}
use Rattle.elsa_shards.proofs.lock_free.ShardedHandle.len.Given as goal

-- Each view continues the one before the loop.
abbrev pub invariant-loop-handle : goal.invariant-loop-handle
invariant-loop-handle g l = AllContinue l.initial.handle-items l.handle-items
