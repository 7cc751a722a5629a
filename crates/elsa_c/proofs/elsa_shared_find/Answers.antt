use Rattle.std.proofs.Common.{refl}
use Rattle.elsa_lock_free.specs.SharedList.{Continues}
use Rattle.elsa_c.proofs.SharedLemmas.{stayed, stays}
use Rattle.elsa_c.proofs.elsa_shared_find.Goals as goal

pub returns-in_default-clause-continues : goal.returns-in_default-clause-continues
returns-in_default-clause-continues c = stayed Continues stays c.args.names.now.handle.value c.args.names.now.handle.value refl
