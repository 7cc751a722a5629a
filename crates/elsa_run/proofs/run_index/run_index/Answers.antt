use Rattle.std.proofs.lemmas.Result.{IfOk-weaker}
use Rattle.elsa_run.proofs.IndexRuns.{index_runs}
use Rattle.elsa_run.proofs.run_index.run_index.Goals as goal

pub returns-clause-replayed : goal.returns-clause-replayed
returns-clause-replayed g c = IfOk-weaker c.run.result _ _ (λ replies answered. index_runs g.K.PartialEq.eq g.met.K.Eq.laws g.V.HasTarget.target g.V.HasTarget.shown _ _ _ _ _ answered) c.run.ensures.answered
