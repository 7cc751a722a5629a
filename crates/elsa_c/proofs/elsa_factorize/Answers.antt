use Rattle.std.proofs.Common.{subst, arith}
use Rattle.elsa_c.specs.Codes.{PutsAll, text_of}
use Rattle.elsa_c.proofs.CodeLemmas.{factorized}
use Rattle.elsa_c.proofs.elsa_factorize.Goals as goal

pub returns-clause-factorized : goal.returns-clause-factorized
returns-clause-factorized c =
    let text = text_of c.args.bytes.now c.args.ends.now in
    let progress = c.put_all-progress in
    factorized text progress.result.done progress.new.self c.args.codes.now progress.new.codes (omega (arith, progress.ensures.within.1, progress.ensures.length))
    (subst (λ b. PutsAll text progress.result.done b progress.new.self c.args.codes.now progress.new.codes) c.new-kept.ensures progress.ensures.puts)
