use Rattle.std.proofs.Common.{◌∙◌}
use Rattle.elsa_tables.proofs.MapEquality.{equal_as_maps, same_by_hash}
use Rattle.elsa_maps.proofs.Pairs.{same_in_any_order}
use Rattle.elsa_maps.proofs.index_map.FrozenIndexMapInPartialEq.eq.Goals as goal

pub returns-clause-decides : goal.returns-clause-decides
returns-clause-decides g c = rw (← c.self.view_is, ← c.other.view_is) (c.eq.ensures ∙ same_by_hash g.K.PartialEq.eq g.V.Borrow.PartialEq.eq g.met.K.Eq.laws c.self.inside.table c.other.inside.table)

pub returns-clause-as_maps : goal.returns-clause-as_maps
returns-clause-as_maps g c = equal_as_maps g.K.PartialEq.eq g.V.Borrow.PartialEq.eq g.met.K.Eq.laws _ _ _ (returns-clause-decides g c)

pub returns-clause-blind_to_order : goal.returns-clause-blind_to_order
returns-clause-blind_to_order g c = λ alike moved. returns-clause-decides g c ∙ same_in_any_order g.K.PartialEq.eq g.met.K.Eq.laws g.V.Borrow.PartialEq.eq alike _ _ c.len.ensures.distinct moved
