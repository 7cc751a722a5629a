use Rattle.std.proofs.Common.{◌≡◌, ◌+◌, arith}
use Rattle.elsa_slots.specs.Geometry.{size_of}
use Rattle.elsa_slots.proofs.ListLemmas.Copies.{goes_further}
use Rattle.elsa_arena.proofs.IndexLemmas.{next_buffer, next_slot}
use Rattle.elsa_arena.proofs.state.write_next.Goals as goal

pub returns-then-slot-size-clause-location : goal.returns-then-slot-size-clause-location
returns-then-slot-size-clause-location g c =
    let b = c.args.buffer in let j = c.args.slot in let k = c.requires.open in
    let room = c.if-slot-size.true in let size = c.buffer_len-size.ensures in let whole = k.whole in
    next_slot c.args._n b j k.index (omega (arith, room, size, whole))

pub returns-clause-location : goal.returns-clause-location
returns-clause-location g c =
    let b = c.args.buffer in let j = c.args.slot in let k = c.requires.open in
    let no = c.if-slot-size.false in let size = c.buffer_len-size.ensures in let whole = k.whole in let within = k.index.within in
    next_buffer c.args._n b j k.index (omega (arith, no, size, whole, within))

pub returns-clause-ahead : goal.returns-clause-ahead
returns-clause-ahead g c =
    let b = c.args.buffer in let j = c.args.slot in let k = c.requires.open in let o = c.args.from in
    let no = c.if-slot-size.false in let size = c.buffer_len-size.ensures in let whole = k.whole in let within = k.index.within in
    let full : j + 1 ≡ size_of b = omega (arith, no, size, whole, within) in
    goes_further c.args.into.now c.args._n b j 1 o.buffer.of o.buffer.value.0 o.slots.of o.further.of k full
