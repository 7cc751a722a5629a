use Rattle.std.proofs.Common.{◌≡◌, ◌≤◌, vec_capacity, vec_len}
use Rattle.elsa_program.specs.Workers.{Each, IsPromiseOf}
use Rattle.elsa_program.proofs.shared.fn.run_workers.scope.Given as goal

-- Each worker so far has its promise, and the view has the observed prefix of the beginning.
abbrev pub invariant-loop-worker : goal.invariant-loop-worker
invariant-loop-worker g l =
    (l.longest.vector ≡ l.vector)
    × (l.longest.seen ≡ l.begun.seen)
    × (vec_len l.started ≡ l.worker)
    × (l.workers ≤ vec_capacity l.started)
    × Each (λ worker h. IsPromiseOf l.vector l.begun.seen l.count worker h.promise.vector.now h.promise.pass.now.seen h.promise.count h.promise.worker) l.started.items
