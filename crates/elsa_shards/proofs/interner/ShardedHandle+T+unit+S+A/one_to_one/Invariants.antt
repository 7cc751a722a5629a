use Rattle.elsa_shards.proofs.NumberLemmas.{AgreeBelow}
use Rattle.elsa_shards.proofs.interner.ShardedHandle+T+unit+S+A.one_to_one.Given as goal

-- In the shards that were visited, equal names have one index.
abbrev pub invariant-loop-index : goal.invariant-loop-index
invariant-loop-index g l = AgreeBelow g.T.PartialEq.eq l.index l.self-inside.handles.items l.self-inside.handles.items
