use Rattle.elsa_locks.proofs.map.locked.Locked.len.Goals as goal

pub returns : goal.returns
returns g c = (_, c.obeys_rule.ensures.distinct, c.obeys_rule.ensures.order, c.obeys_rule.ensures.rule, c.len.ensures.length)
