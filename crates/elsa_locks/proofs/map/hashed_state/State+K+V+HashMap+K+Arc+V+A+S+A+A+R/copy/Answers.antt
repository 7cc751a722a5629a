use Rattle.elsa_locks.specs.Shared.{shown}
use Rattle.elsa_tables.proofs.RuleLemmas.{same_kept}
use Rattle.elsa_locks.proofs.Clones.{copied}
use Rattle.elsa_locks.proofs.map.hashed_state.State+K+V+HashMap+K+Arc+V+A+S+A+A+R.copy.Goals as goal

pub returns : goal.returns
returns g c = rw (← c.self.view_is, c.over.ensures) (copied g.met.K.Eq.laws g.K.Clone.is_clone c.requires c.self.inside.table.entries c.in_ok-clone.field-0.entries c.in_ok-clone.ensures.cases)

pub over-requires : goal.over-requires
over-requires g c = same_kept g.K.PartialEq.eq g.R.EntryRule.holds (shown c.self.inside.table.entries) (shown c.in_ok-clone.field-0.entries) c.self.invariant
    (copied g.met.K.Eq.laws g.K.Clone.is_clone c.requires c.self.inside.table.entries c.in_ok-clone.field-0.entries c.in_ok-clone.ensures.cases)
