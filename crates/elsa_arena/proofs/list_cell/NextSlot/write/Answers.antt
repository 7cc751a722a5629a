use Rattle.std.proofs.Common.{◌∷◌, [], ap, ◌∙◌, length, length-append, arith}
use Rattle.elsa_arena.proofs.IndexLemmas.{index_low}
use Rattle.elsa_arena.proofs.list_cell.NextSlot.write.Goals as goal

pub overflow_add-seen : goal.overflow_add-seen
overflow_add-seen g c = let s = c.args.self in let low = index_low s.count s.buffer s.slot c.requires.at.index c.requires.openable in omega (arith, low)

pub overflow_add-next : goal.overflow_add-next
overflow_add-next g c = let s = c.args.self in let low = index_low s.count s.buffer s.slot c.requires.at.index c.requires.openable in omega (arith, low)

pub invariant_of-seen : goal.invariant_of-seen
invariant_of-seen g c =
    let s = c.args.self in let low = index_low s.count s.buffer s.slot c.requires.at.index c.requires.openable in
    let many = ap length c.again.ensures.1 ∙ (ap length c.add.ensures.1 ∙ length-append s.prefix.items (c.write_lent-written.result.1.value ∷ [])) in let count = c.requires.count in
    (omega (arith, many, count), low, omega (arith, many, count, low), λ _ _ _. tt)

pub returns-then-slot-size-clause-limit : goal.returns-then-slot-size-clause-limit
returns-then-slot-size-clause-limit g c =
    let s = c.args.self in let low = index_low s.count s.buffer s.slot c.requires.at.index c.requires.openable in
    let many = ap length c.again.ensures.1 ∙ (ap length c.add.ensures.1 ∙ length-append s.prefix.items (c.write_lent-written.result.1.value ∷ [])) in let count = c.requires.count in
    omega (arith, many, count, low)

pub invariant_of-seen-2 : goal.invariant_of-seen-2
invariant_of-seen-2 g c =
    let s = c.args.self in let low = index_low s.count s.buffer s.slot c.requires.at.index c.requires.openable in
    let many = ap length c.again.ensures.1 ∙ (ap length c.add.ensures.1 ∙ length-append s.prefix.items (c.write_lent-written.result.1.value ∷ [])) in let count = c.requires.count in
    (omega (arith, many, count), low, omega (arith, many, count, low), λ _ _ _. tt)

pub returns-clause-limit : goal.returns-clause-limit
returns-clause-limit g c =
    let s = c.args.self in let low = index_low s.count s.buffer s.slot c.requires.at.index c.requires.openable in
    let many = ap length c.again.ensures.1 ∙ (ap length c.add.ensures.1 ∙ length-append s.prefix.items (c.write_lent-written.result.1.value ∷ [])) in let count = c.requires.count in
    omega (arith, many, count, low)
