use Rattle.std.proofs.lemmas.Result.{IfOk-weaker}
use Rattle.elsa_run.proofs.VecRuns.{vec_runs}
use Rattle.elsa_run.proofs.run_vec.run_vec.Goals as goal

pub returns-clause-replayed : goal.returns-clause-replayed
returns-clause-replayed g c = IfOk-weaker c.run.result _ _ (λ replies answered. vec_runs g.T.HasTarget.target g.T.HasTarget.shown _ _ _ _ _ answered) c.run.ensures.answered
