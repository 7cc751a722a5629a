use Rattle.std.proofs.Common.{ap, refl, rules}
use Rattle.elsa_run.specs.declared.run_index.IndexReply.TheVariants.{Item, Full, New, FullNew}
use Rattle.elsa_maps.proofs.Indices.{no_index}
use Rattle.elsa_maps.proofs.Pairs.{at_its_index, flag_of_index}
use Rattle.elsa_run.proofs.IndexRuns.{inserted, told}
use Rattle.elsa_run.proofs.run_index.IndexCommandIndexMapBorrowCallFrozenIndexMapInIndexReplyBorrowUnit.apply.Goals as goal

pub returns-in_ok-insert-in-Insert-clause-step : goal.returns-in_ok-insert-in-Insert-clause-step
returns-in_ok-insert-in-Insert-clause-step g c =
    let e = c.in_ok-insert-in-Insert.ensures in
    let h = at_its_index g.K.PartialEq.eq g.V.HasTarget.target g.V.HasTarget.shown _ _ _ _ _ (λ x at. (e.present x at).1) e.value_after (λ none. ((e.added none).0, e.new_entry none)) in
    rw c.in-Insert.is (inserted g.K.PartialEq.eq g.met.K.Eq.laws g.V.HasTarget.target g.V.HasTarget.shown _ _ _ _ (λ i b new. Item b) _ _ _ (h.1, refl))

pub returns-in_ok-index-in-InsertFull-clause-step : goal.returns-in_ok-index-in-InsertFull-clause-step
returns-in_ok-index-in-InsertFull-clause-step g c = let h = c.in_ok-index-in-InsertFull.ensures.accepted in rw c.in-InsertFull.is (inserted g.K.PartialEq.eq g.met.K.Eq.laws g.V.HasTarget.target g.V.HasTarget.shown _ _ _ _ (λ i b new. Full i b) _ _ _ (h, refl))

pub returns-in_ok-item-in-InsertNew-clause-step : goal.returns-in_ok-item-in-InsertNew-clause-step
returns-in_ok-item-in-InsertNew-clause-step g c =
    let e = c.in_ok-item-in-InsertNew.ensures in
    let h = at_its_index g.K.PartialEq.eq g.V.HasTarget.target g.V.HasTarget.shown _ _ _ _ _ (λ x at. (e.present x at).1) e.value_after (λ none. ((e.added none).1.0, e.new_entry none)) in
    let flag = flag_of_index g.K.PartialEq.eq _ _ _ (λ x at. ap told (e.present x at).0) (λ none. (e.added none).0) in
    rw c.in-InsertNew.is (inserted g.K.PartialEq.eq g.met.K.Eq.laws g.V.HasTarget.target g.V.HasTarget.shown _ _ _ _ (λ i b new. New b new) _ _ _ (h.1, flag))

pub returns-in_ok-index-in-InsertFullNew-clause-step : goal.returns-in_ok-index-in-InsertFullNew-clause-step
returns-in_ok-index-in-InsertFullNew-clause-step g c = let h = c.in_ok-index-in-InsertFullNew.ensures.accepted in rw c.in-InsertFullNew.is (inserted g.K.PartialEq.eq g.met.K.Eq.laws g.V.HasTarget.target g.V.HasTarget.shown _ _ _ _ FullNew _ _ _ h)

pub returns-in_err-insert-in-Insert-clause-refused : goal.returns-in_err-insert-in-Insert-clause-refused
returns-in_err-insert-in-Insert-clause-refused g c = let gone = no_index g.K.PartialEq.eq _ _ c.in_err-insert-in-Insert.ensures.refused.1 in search (rules, gone)

pub returns-in_err-item-in-InsertNew-clause-refused : goal.returns-in_err-item-in-InsertNew-clause-refused
returns-in_err-item-in-InsertNew-clause-refused g c = let gone = no_index g.K.PartialEq.eq _ _ c.in_err-item-in-InsertNew.ensures.refused.1 in search (rules, gone)
