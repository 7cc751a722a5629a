use Rattle.std.proofs.Common.{◌∙◌}
use Rattle.std.specs.Cmp.{eq_by_cmp_equiv}
use Rattle.std.specs.Ordering.{eq_by_cmp}
use Rattle.elsa_tables.proofs.MapEquality.{equal_as_maps, same_by_order}
use Rattle.elsa_maps.proofs.map.ordered.FrozenBTreeMapInPartialEq.eq.Goals as goal

pub returns-clause-decides : goal.returns-clause-decides
returns-clause-decides g c =
    rw (← c.self.view_is, ← c.other.view_is)
    (c.eq.ensures ∙ same_by_order g.K.Ord.cmp g.met.K.Ord.total g.K.PartialEq.eq g.met.K.Ord.matches_eq g.V.Borrow.PartialEq.eq c.self.inside.table.entries c.other.inside.table.entries
    (rw (← c.self.view_is) at c.len.ensures.in_order) (rw (← c.other.view_is) at c.len-2.ensures.in_order))

pub returns-clause-as_maps : goal.returns-clause-as_maps
returns-clause-as_maps g c = equal_as_maps (eq_by_cmp g.K.Ord.cmp) g.V.Borrow.PartialEq.eq (eq_by_cmp_equiv g.met.K.Ord.total) _ _ _ (returns-clause-decides g c)
