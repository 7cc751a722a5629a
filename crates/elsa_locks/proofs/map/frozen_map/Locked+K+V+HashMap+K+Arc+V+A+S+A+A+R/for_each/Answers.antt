use Rattle.elsa_locks.proofs.map.frozen_map.Locked+K+V+HashMap+K+Arc+V+A+S+A+A+R.for_each.Goals as goal

pub returns : goal.returns
returns g c = (_, c.obeys_rule.ensures.distinct, c.obeys_rule.ensures.order, c.obeys_rule.ensures.rule, c.for_each.ensures)
