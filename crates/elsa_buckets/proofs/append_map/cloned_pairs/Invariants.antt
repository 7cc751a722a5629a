use Rattle.std.specs.Prelude.{take}
use Rattle.elsa_tables.specs.Insertions.{IsCloneOf}
use Rattle.elsa_buckets.proofs.append_map.cloned_pairs.Given as goal

abbrev pub invariant-loop-pair : goal.invariant-loop-pair
invariant-loop-pair g l = IsCloneOf g.K.PartialEq.eq g.K.Clone.is_clone (take l.pair-index l.pairs) l.copy.items
