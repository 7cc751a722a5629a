use Rattle.std.proofs.Common.{subst}
use Rattle.elsa_interner.specs.Names.{PutsAll}
use Rattle.elsa_interner.proofs.ManyNames.{puts_distinct}
use Rattle.elsa_interner.proofs.interner.Interner+BuildHasherDefault+FoldHasher+A+P.from_names.Goals as goal

-- the names that are extended are none
pub returns : goal.returns
returns g c =
    let done = c.in_ok-extend.ensures.extended in
    let put = subst (λ names. PutsAll names done.1 c.extend.new.self) c.new-names.ensures done.3 in
    record { names = (done.0, done.1, done.2, done.4, put, λ distinct. puts_distinct _ done.1 put distinct) }
