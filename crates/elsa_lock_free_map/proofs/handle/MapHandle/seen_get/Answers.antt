use Rattle.elsa_lock_free.specs.SharedList.{items_of}
use Rattle.elsa_lock_free_map.proofs.MapLemmas.{stands_at, stands_holds}
use Rattle.elsa_lock_free_map.proofs.handle.MapHandle.seen_get.Goals as goal

pub returns-in-Some-clause-found : goal.returns-in-Some-clause-found
returns-in-Some-clause-found g c = (c.in-Some.seen, stands_at g.Q.Equivalent.equivalent (items_of c.args.self.now.seen) c.in-Some.seen c.args.query c.entry.result.now c.in-Some.ensures.found c.entry.ensures)

pub returns-in-Some-clause-holds : goal.returns-in-Some-clause-holds
returns-in-Some-clause-holds g c = stands_holds g.Q.Equivalent.equivalent g.L.EntryRule.holds (items_of c.args.self.now.seen) c.args.query c.in-Some.seen c.entry.result.now.value c.obeys_rule.ensures (stands_at g.Q.Equivalent.equivalent (items_of c.args.self.now.seen) c.in-Some.seen c.args.query c.entry.result.now c.in-Some.ensures.found c.entry.ensures)
