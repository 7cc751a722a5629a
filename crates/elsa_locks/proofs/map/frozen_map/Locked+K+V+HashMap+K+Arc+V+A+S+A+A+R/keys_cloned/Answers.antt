use Rattle.std.proofs.lemmas.Result.{IfOk-weaker}
use Rattle.elsa_locks.proofs.map.frozen_map.Locked+K+V+HashMap+K+Arc+V+A+S+A+A+R.keys_cloned.Goals as goal

pub returns : goal.returns
returns g c = IfOk-weaker c.keys_cloned.result _ _ (λ v keys. (_, c.obeys_rule.ensures.distinct, c.obeys_rule.ensures.order, c.obeys_rule.ensures.rule, keys)) c.keys_cloned.ensures.keys
