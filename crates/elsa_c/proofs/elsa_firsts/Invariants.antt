use Rattle.std.proofs.Common.{length}
use Rattle.elsa_c.proofs.CodeLemmas.{AreNoted}
use Rattle.elsa_c.proofs.elsa_firsts.Given as goal

abbrev pub invariant-loop-at : goal.invariant-loop-at
invariant-loop-at l = AreNoted l.codes (length l.fn.firsts) l.at l.count l.firsts
