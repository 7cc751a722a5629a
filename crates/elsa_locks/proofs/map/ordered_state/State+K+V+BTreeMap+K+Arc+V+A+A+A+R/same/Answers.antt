use Rattle.std.proofs.Common.{◌&&◌, sym, ◌∙◌}
use Rattle.std.specs.Arc.{arc_value}
use Rattle.std.specs.Cmp.{eq_by_cmp_equiv}
use Rattle.std.specs.Cmp.Derive.Mapped.{pointwise-map}
use Rattle.std.specs.Ordering.{eq_by_cmp}
use Rattle.elsa_tables.proofs.MapEquality.{equal_as_maps, same_by_order}
use Rattle.elsa_locks.specs.Shared.{shown}
use Rattle.elsa_locks.proofs.map.ordered_state.State+K+V+BTreeMap+K+Arc+V+A+A+A+R.same.Goals as goal

pub returns : goal.returns
returns g c =
    let as_shown = pointwise-map (λ e. (e.0, arc_value e.1)) (λ p q. g.K.PartialEq.eq p.0 q.0 && g.V.PartialEq.eq p.1 q.1) c.self.inside.table.entries c.other.inside.table.entries in
    let decides = same_by_order g.K.Ord.cmp g.met.K.Ord.total g.K.PartialEq.eq g.met.K.Ord.matches_eq g.V.PartialEq.eq (shown c.self.inside.table.entries) (shown c.other.inside.table.entries)
    (rw (← c.self.view_is) at c.len.ensures.order) (rw (← c.other.view_is) at c.len-2.ensures.order) in
    rw (← c.self.view_is, ← c.other.view_is) (equal_as_maps (eq_by_cmp g.K.Ord.cmp) g.V.PartialEq.eq (eq_by_cmp_equiv g.met.K.Ord.total) _ _ c.eq.result (c.eq.ensures ∙ sym as_shown ∙ decides))
