use Rattle.std.proofs.lemmas.Result.{IfOk-weaker}
use Rattle.elsa_run.proofs.SetRuns.{set_runs}
use Rattle.elsa_run.proofs.run_set.run_set.Goals as goal

pub returns-clause-replayed : goal.returns-clause-replayed
returns-clause-replayed g c = IfOk-weaker c.run.result _ _ (λ replies answered. set_runs g.T.Borrow.PartialEq.eq g.met.T.Borrow.Eq.laws g.T.HasTarget.target g.T.HasTarget.shown g.T.LookUp.finds g.T.Borrow.LookUp.finds _ _ _ _ _ answered) c.run.ensures.answered
