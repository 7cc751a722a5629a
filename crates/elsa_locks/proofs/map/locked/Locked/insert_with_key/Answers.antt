use Rattle.std.proofs.Common.{refl, rules}
use Rattle.elsa_locks.proofs.map.locked.Locked.insert_with_key.Goals as goal

pub insert_with_key-answer-requires-clause-holds : goal.insert_with_key-answer-requires-clause-holds
insert_with_key-answer-requires-clause-holds g c = λ v h. c.requires.holds v (h.0, search (rules, h.1), h.2)
