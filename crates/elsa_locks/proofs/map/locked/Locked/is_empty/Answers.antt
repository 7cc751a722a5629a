use Rattle.elsa_locks.proofs.map.locked.Locked.is_empty.Goals as goal

pub returns : goal.returns
returns g c = (_, c.obeys_rule.ensures.distinct, c.obeys_rule.ensures.order, c.obeys_rule.ensures.rule, c.is_empty.ensures)
