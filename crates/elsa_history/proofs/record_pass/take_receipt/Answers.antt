use Rattle.elsa_history.proofs.Counts.{count_set}
use Rattle.elsa_history.proofs.Receipts.{get_within, taken_last, here}
use Rattle.elsa_history.proofs.record_pass.take_receipt.Goals as goal

pub returns-then-is_call-clause-taken : goal.returns-then-is_call-clause-taken
returns-then-is_call-clause-taken g c = λ t es l.
    (taken_last _ _ c.args.passes.now.items c.in-Some.i c.index_mut-pass.result.now c.take_last.new.self c.args.index c.in-Some-take_last.call c.args.entry.now
    (here c.args.passes.now.items c.in-Some.i c.index_mut-pass.result.now (get_within _ c.args.passes.now.items c.in-Some.i c.in-Some.ensures.found) c.index_mut-pass.ensures.value)
    c.in-Some-take_last.ensures es l).0 (rw (← c.number.ensures) (c.is_call.ensures.same c.if-is_call.true))

pub returns-then-is_call-clause-count : goal.returns-then-is_call-clause-count
returns-then-is_call-clause-count g c = λ t.
    count_set c.args.passes.now.items c.in-Some.i c.index_mut-pass.result.now c.take_last.new.self c.args.index c.in-Some-take_last.call
    (here c.args.passes.now.items c.in-Some.i c.index_mut-pass.result.now (get_within _ c.args.passes.now.items c.in-Some.i c.in-Some.ensures.found) c.index_mut-pass.ensures.value)
    c.in-Some-take_last.ensures

pub returns-else-is_call-clause-wrong : goal.returns-else-is_call-clause-wrong
returns-else-is_call-clause-wrong g c = λ t es l.
    (taken_last _ _ c.args.passes.now.items c.in-Some.i c.index_mut-pass.result.now c.take_last.new.self c.args.index c.in-Some-take_last.call c.args.entry.now
    (here c.args.passes.now.items c.in-Some.i c.index_mut-pass.result.now (get_within _ c.args.passes.now.items c.in-Some.i c.in-Some.ensures.found) c.index_mut-pass.ensures.value)
    c.in-Some-take_last.ensures es l).1 (rw (← c.number.ensures) (c.is_call.ensures.other c.if-is_call.false))
