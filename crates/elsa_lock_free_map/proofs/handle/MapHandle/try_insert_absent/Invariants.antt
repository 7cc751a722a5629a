use Rattle.std.proofs.Common.{◌≡◌}
use mathlib.Core.List.{IsPrefix}
use Rattle.elsa_lock_free.specs.SharedList.{items_of, mine}
use Rattle.elsa_lock_free_map.specs.Entries.{Lacks}
use Rattle.elsa_lock_free_map.proofs.handle.MapHandle.try_insert_absent.Given as goal

-- The view is a later one of the same writer, and has observed no entry of the
-- key. The key and the value are still those of the caller.
abbrev pub invariant-loop : goal.invariant-loop
invariant-loop g l =
    (l.self.vector ≡ l.initial.self.vector) × (l.self.writer ≡ l.initial.self.writer) × IsPrefix l.initial.self.seen l.self.seen
    × (mine l.self ≡ mine l.initial.self) × Lacks g.K.PartialEq.eq (items_of l.self.seen) l.fn.key × (l.pair ≡ (l.fn.key, l.fn.value))
