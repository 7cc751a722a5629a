use Rattle.elsa_machine.proofs.TieLemmas.Histories.{each_made, machine_ends}
use Rattle.elsa_machine.proofs.tie.runs_on_machine.Goals as goal

pub returns-clause-steps : goal.returns-clause-steps
returns-clause-steps g c = λ code. each_made code _ c.args.history.now.events c.is_made.ensures.made c.is_made.ensures.limit

pub returns-clause-end : goal.returns-clause-end
returns-clause-end g c = λ code. machine_ends code _ c.args.history.now.events (each_made code _ c.args.history.now.events c.is_made.ensures.made c.is_made.ensures.limit)
