use Rattle.std.proofs.lemmas.Result.{IfOk-weaker}
use Rattle.elsa_run.proofs.MapRuns.{map_runs}
use Rattle.elsa_run.proofs.run_map.run_map.Goals as goal

pub returns-clause-replayed : goal.returns-clause-replayed
returns-clause-replayed g c = IfOk-weaker c.run.result _ _ (λ replies answered. map_runs g.M.MapForm.same c.len.ensures.equivalence g.M.Value.HasTarget.target g.M.Value.HasTarget.shown g.M.MapForm.base_entries _ _ _ _ answered) c.run.ensures.answered
