use Rattle.std.proofs.Common.{refl, subst, sym}
use Rattle.std.specs.Fn.{FnOnceReturnsAt, FnOnceTakesAt}
use Rattle.elsa_tables.specs.Rules.{HoldsAt}
use Rattle.elsa_tables.proofs.RuleLemmas.{found_holds}
use Rattle.elsa_locks.proofs.Kept.{may_call, was_called}
use Rattle.elsa_locks.proofs.map.locked.Locked.map_get.Goals as goal

pub map_get-requires : goal.map_get-requires
map_get-requires g c = may_call (HoldsAt g.R.EntryRule.holds (g.Q.Seeks.finds c.args.query)) (FnOnceTakesAt g.F.FnOnce c.args.f) _
    (found_holds g.T.Table.same g.R.EntryRule.holds (g.Q.Seeks.finds c.args.query) (g.met.Q.Seeks.finds_equals c.args.query) _ c.obeys_rule.ensures.rule)
    c.requires

pub returns-in-Some : goal.returns-in-Some
returns-in-Some g c = (c.deref.result.now, subst (HoldsAt g.R.EntryRule.holds (g.Q.Seeks.finds c.args.query)) (sym c.deref.ensures) (rw c.in-Some.is at c.in-Ok.ensures), (c.deref.result, c.f.ensures, refl))

pub returns-in-Err : goal.returns-in-Err
returns-in-Err g c = was_called (HoldsAt g.R.EntryRule.holds (g.Q.Seeks.finds c.args.query)) (FnOnceReturnsAt g.F.FnOnce c.args.f) _
    (found_holds g.T.Table.same g.R.EntryRule.holds (g.Q.Seeks.finds c.args.query) (g.met.Q.Seeks.finds_equals c.args.query) _ c.obeys_rule.ensures.rule)
    c.map_get.result c.map_get.ensures.called c.map_get.ensures.called_if_present
