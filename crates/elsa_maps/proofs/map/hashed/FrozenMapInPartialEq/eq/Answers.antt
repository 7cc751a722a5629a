use Rattle.std.proofs.Common.{◌∙◌}
use Rattle.elsa_tables.proofs.MapEquality.{equal_as_maps, same_by_hash}
use Rattle.elsa_maps.proofs.map.hashed.FrozenMapInPartialEq.eq.Goals as goal

pub returns-clause-decides : goal.returns-clause-decides
returns-clause-decides g c = rw (← c.self.view_is, ← c.other.view_is) (c.eq.ensures ∙ same_by_hash g.K.PartialEq.eq g.V.Borrow.PartialEq.eq g.met.K.Eq.laws c.self.inside.table c.other.inside.table)

pub returns-clause-as_maps : goal.returns-clause-as_maps
returns-clause-as_maps g c = equal_as_maps g.K.PartialEq.eq g.V.Borrow.PartialEq.eq g.met.K.Eq.laws _ _ _ (returns-clause-decides g c)
