use Rattle.std.proofs.Common.{refl}
use Rattle.elsa_lock_free.proofs.atomic_list.AtomicList.new.Goals as goal

pub filled-list-requires-clause-ahead : goal.filled-list-requires-clause-ahead
filled-list-requires-clause-ahead g c = record { buffer = 0; begins = refl; rights = c.in_ok-slots.ensures.rights }
