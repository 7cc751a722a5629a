use Rattle.std.proofs.Common.{◌∙◌, ap, Some}
use Rattle.elsa_history.proofs.Owners.{none_ends}
use Rattle.elsa_history.proofs.record_pass.find_pass.Goals as goal

pub returns-then-owner-clause-nowhere : goal.returns-then-owner-clause-nowhere
returns-then-owner-clause-nowhere g c = none_ends c.args.index c.args.passes.now.items (c.requires (c.in-Some.is ∙ ap Some c.if-owner.true))
