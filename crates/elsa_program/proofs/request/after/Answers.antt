use Rattle.elsa_program.proofs.RequestLemmas.{after_word}
use Rattle.elsa_program.proofs.request.after.Goals as goal

pub returns : goal.returns
returns c = after_word c.args.word.now c.args.text.now c.strip_prefix.result c.strip_prefix.ensures.cases
