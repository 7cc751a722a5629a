use Rattle.std.proofs.Common.{nat_eq, arith}
use Rattle.elsa_cell.proofs.EntryLemmas.{found_once}
use Rattle.test_callers.proofs.of_maps.found_after.Goals as goal

pub returns-clause-found : goal.returns-clause-found
returns-clause-found c = found_once nat_eq _ _ c.args.key c.args.value _ _ _ (grind arith) c.in_ok-inserted.ensures.inserted
