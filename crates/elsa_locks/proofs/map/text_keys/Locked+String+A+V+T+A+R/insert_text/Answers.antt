use Rattle.std.proofs.Common.{inr, rules}
use Rattle.std.proofs.lemmas.Result.{IfOk-weaker}
use Rattle.elsa_locks.proofs.map.text_keys.Locked+String+A+V+T+A+R.insert_text.Goals as goal

pub returns : goal.returns
returns g c = IfOk-weaker c.insert.result _ _ (λ a held. inr (c.in_ok-owned.owned, search rules, held)) c.insert.ensures
