use Rattle.std.proofs.Common.{◌+◌, ◌*◌, ◌∙◌, arith, refl}
use Rattle.elsa_lock_free.proofs.Pushed.{nothing_pushed}
use Rattle.elsa_program.proofs.Pushed.{pushes_next, pushes_no_next}
use Rattle.elsa_program.proofs.shared.work.Goals as goal

-- Before the first push the writer has pushed nothing.
pub loop-number-init : goal.loop-number-init
loop-number-init g c = ((refl, refl), nothing_pushed c.args.pass.writer c.args.pass.seen c.requires.nothing_mine)

-- The push failed, so the writer has pushed what it had pushed.
pub returns-in_default-clause-pushed : goal.returns-in_default-clause-pushed
returns-in_default-clause-pushed g c =
    let told = c.in_default.ensures in let n = c.loop-number.number in
    let now = pushes_no_next c.loop-number.pass c.push_as.new.pass (c.args.worker * c.args.count) n told.later.0.1 told.later.1 told.refused.0 c.loop-number.invariant.1 in
    (n, now, c.loop-number-test.true)

-- The push appended the next number, and then the gate returned false.
pub returns-then-not-after-clause-pushed : goal.returns-then-not-after-clause-pushed
returns-then-not-after-clause-pushed g c =
    let told = c.in-Ok.ensures in let n = c.loop-number.number in
    let now = pushes_next c.loop-number.pass c.push_as.new.pass c.in-Ok.index (c.args.worker * c.args.count) n told.later.0.1 told.pushed.0 told.pushed.1 c.loop-number.invariant.1 in
    (n + 1, now, (omega arith, omega arith))

-- The push appended the next number.
pub loop-number-preserved : goal.loop-number-preserved
loop-number-preserved g c =
    let told = c.in-Ok.ensures in let was = c.loop-number.invariant in
    ((told.later.0.0 ∙ was.0.0, told.later.0.1 ∙ was.0.1), pushes_next c.loop-number.pass c.push_as.new.pass c.in-Ok.index (c.args.worker * c.args.count) c.loop-number.number told.later.0.1 told.pushed.0 told.pushed.1 was.1)
