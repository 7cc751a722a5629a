use Rattle.std.proofs.Common.{◌≡◌, ◌+◌, drop, length, take}
use Rattle.elsa_slots.specs.Geometry.{slots_before}
use Rattle.elsa_slots.proofs.slots.buffer.Buffer.move_items.Given as goal

-- The slots from this one on are as they were, and the items before it were received.
abbrev pub invariant-loop-slot : goal.invariant-loop-slot
invariant-loop-slot g l = (l.cells.at ≡ l.base.ptr) × (length l.cells.names ≡ l.len) × (drop l.slot l.cells.names ≡ drop l.slot l.fn.self.0)
    × (g.S.Sink.received l.to ≡ take (slots_before l.buffer + l.slot) l.prefix.items) × (g.S.Sink.capacity l.to ≡ g.S.Sink.capacity l.fn.to)
