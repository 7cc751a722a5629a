use Rattle.std.proofs.Common.{map}
use Rattle.std.specs.Arc.{arc_value}
use Rattle.std.specs.List.{FoldsTo}
use Rattle.elsa_locks.specs.Walks.{VisitsEntry}
use Rattle.elsa_locks.proofs.map.walks.visit.Given as goal

-- The closure may be called again, and was called with each entry that the iterator returned.
abbrev pub invariant-loop-key : goal.invariant-loop-key
invariant-loop-key g l = goal.F-IsAlwaysCallable g l.f × FoldsTo (VisitsEntry g.F.FnMut) l.fn.f (map (λ e. (e.0.now, arc_value e.1.now)) l.yielded) l.f
