use Rattle.std.specs.Arc.{arc_value}
use Rattle.elsa_tables.specs.Rules.{HoldsAt}
use Rattle.elsa_tables.proofs.RuleLemmas.{found_holds}
use Rattle.elsa_locks.proofs.Kept.{found_ok}
use Rattle.elsa_locks.proofs.map.locked.Locked.get.Goals as goal

pub returns : goal.returns
returns g c = found_ok arc_value (HoldsAt g.R.EntryRule.holds (g.Q.Seeks.finds c.args.query)) _
    (found_holds g.T.Table.same g.R.EntryRule.holds (g.Q.Seeks.finds c.args.query) (g.met.Q.Seeks.finds_equals c.args.query) _ c.obeys_rule.ensures.rule)
    c.get.result c.get.ensures.answer
