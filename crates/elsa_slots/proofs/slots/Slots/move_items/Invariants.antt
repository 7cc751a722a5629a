use Rattle.std.proofs.Common.{◌≡◌, ◌+◌, ◌<◌, ◌≤◌, ◌^◌, drop, length, take}
use Rattle.elsa_slots.proofs.slots.Slots.move_items.Given as goal

-- The slots of the buffers from this one on are left; if there is a next index, it is the first one
-- of this buffer. The items before it were received.
abbrev pub invariant-loop-slot : goal.invariant-loop-slot
invariant-loop-slot g l = (l.index ≤ l.len) × (l.index < l.len → l.index + 1 ≡ 4 ^ l.buffer) × (l.slot-iterator.rest.items ≡ drop l.buffer l.fn.self)
    × (g.S.Sink.received l.to ≡ take l.index l.prefix.items) × (g.S.Sink.capacity l.to ≡ g.S.Sink.capacity l.fn.to) × (l.slot-iterator.rest.len ≡ length l.slot-iterator.rest.items)
