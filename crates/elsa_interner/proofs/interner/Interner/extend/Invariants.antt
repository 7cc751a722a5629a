use Rattle.elsa_interner.specs.Names.{PutsAll}
use Rattle.elsa_interner.proofs.interner.Interner.extend.Given as goal

abbrev pub invariant-loop-text : goal.invariant-loop-text
invariant-loop-text g l = PutsAll l.fn.self l.yielded l.self
