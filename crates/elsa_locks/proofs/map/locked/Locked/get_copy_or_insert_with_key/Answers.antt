use Rattle.std.proofs.Common.{refl, rules}
use Rattle.elsa_locks.proofs.map.locked.Locked.get_copy_or_insert_with_key.Goals as goal

pub get_copy_or_insert_with_key-answer-requires-clause-holds : goal.get_copy_or_insert_with_key-answer-requires-clause-holds
get_copy_or_insert_with_key-answer-requires-clause-holds g c = λ v h. c.requires.holds v (h.0, search (rules, h.1), h.2)
