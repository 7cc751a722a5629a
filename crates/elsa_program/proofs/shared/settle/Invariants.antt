use Rattle.std.proofs.Common.{◌≡◌, ◌+◌, ◌≤◌, ◌++◌, All, length, map, vec_capacity, vec_len}
use Rattle.std.specs.Vec.Iter.{into_iter_items, into_iter_len}
use Rattle.elsa_lock_free.specs.SharedList.{pushed_by}
use Rattle.elsa_program.proofs.shared.settle.Given as goal

-- `pass` is unchanged, the faults so far are those of the workers, and what is true for the other
-- workers is true for all.
abbrev pub invariant-loop-worker : goal.invariant-loop-worker
invariant-loop-worker g l =
    let rest = into_iter_items l.worker-iterator in let all = l.fn.done.items in
    (l.pass ≡ l.fn.pass)
    × (l.faults.items ++ map (λ d. d.fault) rest ≡ map (λ d. d.fault) all)
    × All (λ d. d.pass.vector ≡ l.pass.vector) rest
    × All (λ d. length d.pass.seen ≤ length l.pass.seen) rest
    × (All (λ d. pushed_by d.pass.writer l.pass.seen ≡ pushed_by d.pass.writer d.pass.seen) rest
    → All (λ d. pushed_by d.pass.writer l.pass.seen ≡ pushed_by d.pass.writer d.pass.seen) all)
    × (vec_len l.faults + into_iter_len l.worker-iterator ≤ vec_capacity l.faults)
