use Rattle.std.proofs.Common.{append-nil, refl}
use Rattle.elsa_run.proofs.VecRuns.{empty_seen, found_seen, last_seen}
use Rattle.elsa_run.proofs.run_vec.VecCommandVecBorrowCallFrozenVecInVecReplyBorrowUnit.apply.Goals as goal

pub returns-in-Get-clause-step : goal.returns-in-Get-clause-step
returns-in-Get-clause-step g c = rw c.in-Get.is ((c.get.result, refl, found_seen _ c.args.items.now c.in-Get.index _ c.get.ensures), append-nil _)

pub returns-in-First-clause-step : goal.returns-in-First-clause-step
returns-in-First-clause-step g c = rw c.in-First.is ((c.first.result, refl, found_seen _ c.args.items.now 0 _ c.first.ensures), append-nil _)

pub returns-in-Last-clause-step : goal.returns-in-Last-clause-step
returns-in-Last-clause-step g c = rw c.in-Last.is ((c.last.result, refl, last_seen _ c.args.items.now _ c.last.ensures), append-nil _)

pub returns-in-IsEmpty-clause-step : goal.returns-in-IsEmpty-clause-step
returns-in-IsEmpty-clause-step g c = rw c.in-IsEmpty.is ((c.is_empty.result, refl, empty_seen _ _ _ c.is_empty.ensures), append-nil _)
