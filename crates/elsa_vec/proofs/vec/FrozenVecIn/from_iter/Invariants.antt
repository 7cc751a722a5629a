use Rattle.std.proofs.Common.{◌≡◌, map}
use Rattle.elsa_vec.proofs.vec.FrozenVecIn.from_iter.Given as goal

abbrev pub invariant-loop-item : goal.invariant-loop-item
invariant-loop-item g l = map g.T.HasTarget.shown l.made ≡ map g.T.HasTarget.target l.yielded
