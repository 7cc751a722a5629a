use Rattle.elsa_tables.specs.Insertions.{CollectsTargets}
use Rattle.elsa_maps.proofs.index_map.FrozenIndexMapIn+R+K+V+S+A.from_iter.Given as goal

abbrev pub invariant-loop-pair : goal.invariant-loop-pair
invariant-loop-pair g l = CollectsTargets g.K.PartialEq.eq g.V.HasTarget.target g.V.HasTarget.shown l.yielded l.map
