use Rattle.elsa_program.proofs.DigitLemmas.{counted}
use Rattle.elsa_program.proofs.digits.digit_count.Goals as goal

pub returns-clause-length : goal.returns-clause-length
returns-clause-length c = counted c.args.n c.requires c.ranges.n.fits
