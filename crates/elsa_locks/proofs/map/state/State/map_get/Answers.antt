use Rattle.elsa_locks.proofs.map.state.State.map_get.Goals as goal

pub returns-in-Some-clause-called : goal.returns-in-Some-clause-called
returns-in-Some-clause-called g c = rw (← c.self.view_is, ← c.in-Some.ensures) (c.deref.result, c.f.ensures, c.deref.ensures)
