use Rattle.elsa_locks.proofs.map.frozen_btree_map.Locked+K+V+BTreeMap+K+Arc+V+A+A+A+R.for_each_in_range.Goals as goal

pub returns : goal.returns
returns g c = (_, c.obeys_rule.ensures.distinct, c.obeys_rule.ensures.order, c.obeys_rule.ensures.rule, c.for_each_in_range.ensures)
