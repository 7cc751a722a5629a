use Rattle.std.proofs.lemmas.Result.{IfOk-weaker}
use Rattle.elsa_locks.proofs.map.frozen_btree_map.Locked+K+V+BTreeMap+K+Arc+V+A+A+A+R.first_key_value_cloned.Goals as goal

pub returns : goal.returns
returns g c = IfOk-weaker c.first_key_value_cloned.result _ _ (λ a copy. (_, c.obeys_rule.ensures.distinct, c.obeys_rule.ensures.order, c.obeys_rule.ensures.rule, copy)) c.first_key_value_cloned.ensures.answer
