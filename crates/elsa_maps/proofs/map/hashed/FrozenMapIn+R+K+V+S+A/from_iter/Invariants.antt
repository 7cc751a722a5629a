use Rattle.elsa_maps.specs.FirstWins.{HoldsLast}
use Rattle.elsa_maps.proofs.map.hashed.FrozenMapIn+R+K+V+S+A.from_iter.Given as goal

abbrev pub invariant-loop-pair : goal.invariant-loop-pair
invariant-loop-pair g l = HoldsLast g.K.PartialEq.eq g.V.HasTarget.target g.V.HasTarget.shown l.yielded l.table.entries
