use Rattle.elsa_shards.proofs.NumberLemmas.{AgreeBelow}
use Rattle.elsa_shards.proofs.interner.ShardedHandle+T+unit+S+A.same_name_same_number.Given as goal

-- In the shards that were visited, equal names have one index.
abbrev pub invariant-loop-index : goal.invariant-loop-index
invariant-loop-index g l = AgreeBelow g.T.PartialEq.eq l.index l.self-inside.handles.items l.other-inside.handles.items
