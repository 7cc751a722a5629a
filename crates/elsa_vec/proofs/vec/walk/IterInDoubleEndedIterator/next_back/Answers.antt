use Rattle.std.proofs.Common.{arith}
use Rattle.elsa_vec.proofs.Walking.{last_between}
use Rattle.elsa_vec.proofs.vec.walk.IterInDoubleEndedIterator.next_back.Goals as goal

pub returns-clause-steps : goal.returns-clause-steps
returns-clause-steps g c =
    rw (← c.self.view_is) (last_between c.self.inside.items.now c.self.inside.index c.self.inside.end c.get_unchecked.result (omega (arith, c.if-self.false, c.self.invariant)) c.get_unchecked.ensures)
