use Rattle.elsa_index.specs.Extended.{SetExtends}
use Rattle.elsa_index.proofs.index_set.FrozenIndexSetIn.extend.Given as goal

abbrev pub invariant-loop-value : goal.invariant-loop-value
invariant-loop-value g l = SetExtends g.T.Borrow.PartialEq.eq g.T.HasTarget.target g.T.HasTarget.shown g.T.LookUp.finds l.fn.self l.yielded l.self
