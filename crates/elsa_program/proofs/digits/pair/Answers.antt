use Rattle.std.proofs.Common.{refl}
use Rattle.elsa_program.proofs.DigitLemmas.{PAIRS_at}
use Rattle.elsa_program.proofs.digits.pair.Goals as goal

pub returns : goal.returns
returns c =
    let p = PAIRS_at c.args.number c.requires in
    rw (p.0, p.1) refl
