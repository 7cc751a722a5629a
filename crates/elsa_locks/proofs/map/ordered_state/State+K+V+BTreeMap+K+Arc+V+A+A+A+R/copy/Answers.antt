use Rattle.std.proofs.Common.{sym, ◌∙◌}
use Rattle.std.specs.Cmp.{eq_by_cmp_equiv}
use Rattle.std.specs.Ordering.{eq_by_cmp}
use Rattle.elsa_locks.specs.Shared.{shown}
use Rattle.elsa_tables.proofs.RuleLemmas.{same_kept}
use Rattle.elsa_locks.proofs.Clones.{copied}
use Rattle.elsa_locks.proofs.map.ordered_state.State+K+V+BTreeMap+K+Arc+V+A+A+A+R.copy.Goals as goal

pub returns : goal.returns
returns g c = rw (← c.self.view_is, c.over.ensures)
    (copied (eq_by_cmp_equiv g.met.K.Ord.total) g.K.Clone.is_clone (λ a b h. sym (g.met.K.Ord.matches_eq a b) ∙ c.requires a b h) c.self.inside.table.entries c.in_ok-clone.field-0.entries c.in_ok-clone.ensures.cases)

pub over-requires : goal.over-requires
over-requires g c = same_kept (eq_by_cmp g.K.Ord.cmp) g.R.EntryRule.holds (shown c.self.inside.table.entries) (shown c.in_ok-clone.field-0.entries) c.self.invariant
    (copied (eq_by_cmp_equiv g.met.K.Ord.total) g.K.Clone.is_clone (λ a b h. sym (g.met.K.Ord.matches_eq a b) ∙ c.requires a b h) c.self.inside.table.entries c.in_ok-clone.field-0.entries c.in_ok-clone.ensures.cases)
