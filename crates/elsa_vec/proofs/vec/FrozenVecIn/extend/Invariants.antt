use Rattle.elsa_vec.specs.Vec.{GainsAll}
use Rattle.elsa_vec.proofs.vec.FrozenVecIn.extend.Given as goal

abbrev pub invariant-loop-item : goal.invariant-loop-item
invariant-loop-item g l = GainsAll g.T.HasTarget.target g.T.HasTarget.shown l.fn.self l.yielded l.self
