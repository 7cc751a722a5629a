use Rattle.std.proofs.Common.{subst}
use Rattle.elsa_locks.specs.Walks.{VisitsAll}
use Rattle.elsa_locks.proofs.Walks.{walked, between_shown}
use Rattle.elsa_locks.proofs.map.ordered_state.State+K+V+BTreeMap+K+Arc+V+A+A+A+R.for_each_in_range.Goals as goal

pub returns : goal.returns
returns g c = rw (← c.self.view_is) (λ told. subst (VisitsAll g.F.FnMut c.args.f) (between_shown g.K.Ord.cmp _ _ c.self.inside.table.entries) (walked g.F.FnMut c.args.f _ _ c.visit.ensures.0 (c.range.ensures.between told) c.visit.ensures.1 c.visit.ensures.2))
