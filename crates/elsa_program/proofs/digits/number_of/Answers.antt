use Rattle.elsa_program.proofs.RequestLemmas.{not_number, number_parsed}
use Rattle.elsa_program.proofs.digits.number_of.Goals as goal

pub returns-then-not-all_digits : goal.returns-then-not-all_digits
returns-then-not-all_digits c =
    let d = rw c.as_bytes.ensures.value at c.all_digits.ensures in
    not_number c.args.digits.now (λ p. cc (d.1 p))

pub returns : goal.returns
returns c =
    let d = rw c.as_bytes.ensures.value at c.all_digits.ensures in
    number_parsed c.args.digits.now c.parse.result c.ok.result (d.0 c.if-not-all_digits.false) c.parse.ensures.value.0 c.ok.ensures.value
