use Rattle.std.proofs.Common.{◌≡◌}
use mathlib.Core.List.{IsPrefix}
use Rattle.elsa_lock_free.specs.SharedList.{mine}
use Rattle.elsa_lock_free.proofs.handle.Handle+T+A+K.wait_for_length.Given as goal

-- the pass is the same, later, and its own indices are as before
abbrev pub invariant-loop : goal.invariant-loop
invariant-loop g l =
    (l.self.vector ≡ l.initial.self.vector) × (l.self.writer ≡ l.initial.self.writer) × IsPrefix l.initial.self.seen l.self.seen
    × (mine l.self ≡ mine l.initial.self)
