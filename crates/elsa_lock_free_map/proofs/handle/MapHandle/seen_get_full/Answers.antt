use Rattle.elsa_lock_free.specs.SharedList.{items_of}
use Rattle.elsa_lock_free_map.proofs.MapLemmas.{finds_at}
use Rattle.elsa_lock_free_map.proofs.handle.MapHandle.seen_get_full.Goals as goal

pub returns-in-Some-clause-found : goal.returns-in-Some-clause-found
returns-in-Some-clause-found g c = finds_at g.Q.Equivalent.equivalent (items_of c.args.self.now.seen) c.in-Some.index c.args.query c.entry-found.result.now c.in-Some.ensures.found c.entry-found.ensures

pub returns-in-Some-clause-holds : goal.returns-in-Some-clause-holds
returns-in-Some-clause-holds g c = c.obeys_rule.ensures c.in-Some.index c.entry-found.result.now c.entry-found.ensures
