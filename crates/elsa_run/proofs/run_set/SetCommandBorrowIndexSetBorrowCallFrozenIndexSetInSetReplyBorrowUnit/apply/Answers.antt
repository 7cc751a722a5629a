use Rattle.std.proofs.Common.{refl}
use Rattle.elsa_run.specs.declared.run_set.SetReply.TheVariants.{Item, Full, New, FullNew}
use Rattle.elsa_run.proofs.SetRuns.{inserted}
use Rattle.elsa_run.proofs.run_set.SetCommandBorrowIndexSetBorrowCallFrozenIndexSetInSetReplyBorrowUnit.apply.Goals as goal

pub returns-in_ok-insert-in-Insert-clause-step : goal.returns-in_ok-insert-in-Insert-clause-step
returns-in_ok-insert-in-Insert-clause-step g c = let h = c.in_ok-insert-in-Insert.ensures.accepted in rw c.in-Insert.is (inserted g.T.Borrow.PartialEq.eq g.met.T.Borrow.Eq.laws g.T.HasTarget.target g.T.HasTarget.shown g.T.LookUp.finds g.met.T.LookUp.finds_target _ _ _ (λ i b new. Item b) _ _ _ (h.1, refl))

pub returns-in_ok-index-in-InsertFull-clause-step : goal.returns-in_ok-index-in-InsertFull-clause-step
returns-in_ok-index-in-InsertFull-clause-step g c = let h = c.in_ok-index-in-InsertFull.ensures.accepted in rw c.in-InsertFull.is (inserted g.T.Borrow.PartialEq.eq g.met.T.Borrow.Eq.laws g.T.HasTarget.target g.T.HasTarget.shown g.T.LookUp.finds g.met.T.LookUp.finds_target _ _ _ (λ i b new. Full i b) _ _ _ (h, refl))

pub returns-in_ok-item-in-InsertNew-clause-step : goal.returns-in_ok-item-in-InsertNew-clause-step
returns-in_ok-item-in-InsertNew-clause-step g c = let h = c.in_ok-item-in-InsertNew.ensures.accepted in rw c.in-InsertNew.is (inserted g.T.Borrow.PartialEq.eq g.met.T.Borrow.Eq.laws g.T.HasTarget.target g.T.HasTarget.shown g.T.LookUp.finds g.met.T.LookUp.finds_target _ _ _ (λ i b new. New b new) _ _ _ h.1)

pub returns-in_ok-index-in-InsertFullNew-clause-step : goal.returns-in_ok-index-in-InsertFullNew-clause-step
returns-in_ok-index-in-InsertFullNew-clause-step g c = let h = c.in_ok-index-in-InsertFullNew.ensures.accepted in rw c.in-InsertFullNew.is (inserted g.T.Borrow.PartialEq.eq g.met.T.Borrow.Eq.laws g.T.HasTarget.target g.T.HasTarget.shown g.T.LookUp.finds g.met.T.LookUp.finds_target _ _ _ FullNew _ _ _ h)
