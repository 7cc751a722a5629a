use Rattle.std.proofs.Common.{◌≡◌, [], ap, ◌∙◌, arith}
use Rattle.elsa_history.proofs.Receipts.{of_nil, none_of_nil, all_taken}
use Rattle.elsa_history.proofs.Counts.{count_nil}
use Rattle.elsa_history.proofs.record_pass.are_empty.Goals as goal

pub returns-then-not-is_empty-clause-when_false : goal.returns-then-not-is_empty-clause-when_false
returns-then-not-is_empty-clause-when_false g c = λ t a.
    c.is_empty.ensures.when_false c.if-not-is_empty.true (ap (λ p. p.1) c.index-pass.ensures ∙ none_of_nil _ _ c.args.passes.now.items a c.loop-i.i c.index-pass.result.now (omega arith))

pub returns-clause-when_true : goal.returns-clause-when_true
returns-clause-when_true g c = λ t. of_nil _ _ c.args.passes.now.items (all_taken (λ p. p.1 ≡ []) c.args.passes.now.items c.loop-i.i (omega arith) c.loop-i.invariant)

pub returns-clause-count : goal.returns-clause-count
returns-clause-count g c = λ t. count_nil c.args.passes.now.items (all_taken (λ p. p.1 ≡ []) c.args.passes.now.items c.loop-i.i (omega arith) c.loop-i.invariant)
