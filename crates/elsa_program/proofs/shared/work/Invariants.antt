use Rattle.std.proofs.Common.{◌≡◌, ◌*◌}
use Rattle.elsa_lock_free.specs.SharedList.{IsSamePass, pushed_by}
use Rattle.elsa_program.specs.Workers.{numbers}
use Rattle.elsa_program.proofs.shared.work.Given as goal

-- The writer has pushed the numbers so far.
abbrev pub invariant-loop-number : goal.invariant-loop-number
invariant-loop-number g l =
    IsSamePass l.fn.pass l.pass × (pushed_by l.pass.writer l.pass.seen ≡ numbers (l.worker * l.count) l.number)
