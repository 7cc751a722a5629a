use Rattle.elsa_tables.specs.Rules.{HoldsAt}
use Rattle.elsa_tables.proofs.RuleLemmas.{found_holds}
use Rattle.elsa_locks.proofs.Kept.{found_copy}
use Rattle.elsa_locks.proofs.map.locked.Locked.get_copy.Goals as goal

pub returns : goal.returns
returns g c = found_copy (HoldsAt g.R.EntryRule.holds (g.Q.Seeks.finds c.args.query)) _
    (found_holds g.T.Table.same g.R.EntryRule.holds (g.Q.Seeks.finds c.args.query) (g.met.Q.Seeks.finds_equals c.args.query) _ c.obeys_rule.ensures.rule)
    c.get_copy.result c.get_copy.ensures
