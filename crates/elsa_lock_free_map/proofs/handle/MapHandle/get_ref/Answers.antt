use Rattle.elsa_lock_free.specs.SharedList.{items_of}
use Rattle.elsa_lock_free_map.proofs.MapLemmas.{stands_at, stands_holds}
use Rattle.elsa_lock_free_map.proofs.handle.MapHandle.get_ref.Goals as goal

pub returns-in-Some-clause-found : goal.returns-in-Some-clause-found
returns-in-Some-clause-found g c = (c.in-Some.index, stands_at g.Q.Equivalent.equivalent (items_of c.find.new.self.seen) c.in-Some.index c.args.query c.entry.result.now c.in-Some.ensures.found c.entry.ensures)

pub returns-in-Some-clause-holds : goal.returns-in-Some-clause-holds
returns-in-Some-clause-holds g c = stands_holds g.Q.Equivalent.equivalent g.L.EntryRule.holds (items_of c.find.new.self.seen) c.args.query c.in-Some.index c.entry.result.now.value c.obeys_rule.ensures (stands_at g.Q.Equivalent.equivalent (items_of c.find.new.self.seen) c.in-Some.index c.args.query c.entry.result.now c.in-Some.ensures.found c.entry.ensures)
