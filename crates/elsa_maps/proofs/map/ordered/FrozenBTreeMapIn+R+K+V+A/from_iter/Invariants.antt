use Rattle.std.specs.Ordering.{eq_by_cmp}
use Rattle.elsa_maps.specs.FirstWins.{HoldsLast}
use Rattle.elsa_maps.proofs.map.ordered.FrozenBTreeMapIn+R+K+V+A.from_iter.Given as goal

abbrev pub invariant-loop-pair : goal.invariant-loop-pair
invariant-loop-pair g l = HoldsLast (eq_by_cmp g.K.Ord.cmp) g.V.HasTarget.target g.V.HasTarget.shown l.yielded l.tree.entries
