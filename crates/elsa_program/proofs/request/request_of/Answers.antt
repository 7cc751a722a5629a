use Rattle.elsa_program.proofs.RequestLemmas.{command_bad}
use Rattle.elsa_program.proofs.request.request_of.Goals as goal

pub returns-in-Ok : goal.returns-in-Ok
returns-in-Ok c = rw c.in-Ok.ensures.cases.0 at c.request_of_text.ensures

pub returns-in-Err : goal.returns-in-Err
returns-in-Err c = command_bad c.args.line.now c.in-Err.ensures.cases.0
