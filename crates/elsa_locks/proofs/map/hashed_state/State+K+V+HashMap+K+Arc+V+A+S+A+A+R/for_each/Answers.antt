use Rattle.elsa_locks.proofs.Walks.{walked}
use Rattle.elsa_locks.proofs.map.hashed_state.State+K+V+HashMap+K+Arc+V+A+S+A+A+R.for_each.Goals as goal

pub returns : goal.returns
returns g c = rw (← c.self.view_is) (walked g.F.FnMut c.args.f _ _ c.visit.ensures.0 c.iter.ensures.rest c.visit.ensures.1 c.visit.ensures.2)
