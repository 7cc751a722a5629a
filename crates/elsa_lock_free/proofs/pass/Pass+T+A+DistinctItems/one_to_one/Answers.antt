use Rattle.elsa_lock_free.specs.Distinct.{IsAbsent}
use Rattle.elsa_lock_free.specs.SharedList.{items_of}
use Rattle.elsa_lock_free.specs.History.{list_of}
use Rattle.elsa_lock_free.proofs.RuleLemmas.EachNew.{items_are_new, one_to_one}
use Rattle.elsa_lock_free.proofs.pass.Pass+T+A+DistinctItems.one_to_one.Goals as goal

pub returns : goal.returns
returns g c = rw (← c.self.view_is) (one_to_one g.T.PartialEq.eq g.met.T.Eq.laws.symm (items_of (list_of c.self.inside.seen.log)) (items_are_new (IsAbsent g.T.PartialEq.eq) (list_of c.self.inside.seen.log) c.obeys_rule.ensures.obeys_rule))
