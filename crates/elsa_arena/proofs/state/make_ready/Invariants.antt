use Rattle.std.proofs.Common.{◌-◌, ◌≡◌, ◌+◌, ◌≤◌, length}
use Rattle.elsa_arena.specs.Ready.{AreNext}
use Rattle.elsa_arena.proofs.state.make_ready.Given as goal

-- The buffers so far are ready, up to the next one.
abbrev pub invariant-loop-next : goal.invariant-loop-next
invariant-loop-next g l = AreNext l.first l.ready.items × (l.next ≡ l.first + length l.ready.items) × (l.next ≤ 31) × (length l.initial.ready.items ≤ length l.ready.items)

abbrev pub decreases-loop-next : goal.decreases-loop-next
decreases-loop-next g l = l.end - l.next
