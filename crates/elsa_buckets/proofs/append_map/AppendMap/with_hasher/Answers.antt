use Rattle.elsa_buckets.proofs.PlacedLemmas.{placed_none}
use Rattle.elsa_buckets.proofs.append_map.AppendMap.with_hasher.Goals as goal

pub invariant_of-result : goal.invariant_of-result
invariant_of-result g c = rw c.new.ensures.items (placed_none _ g.met.K.Eq.laws _ _ c.new-2.ensures.indices)
