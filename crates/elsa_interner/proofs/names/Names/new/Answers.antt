use Rattle.std.proofs.Common.{arith}
use Rattle.elsa_interner.proofs.NameLemmas.{numbered_none}
use Rattle.elsa_interner.proofs.names.Names.new.Goals as goal

pub invariant_of-result : goal.invariant_of-result
invariant_of-result g c = rw c.new.ensures.items (numbered_none _ _ c.new-2.ensures.indices, omega arith)
