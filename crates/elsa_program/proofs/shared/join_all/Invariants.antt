use Rattle.std.proofs.Common.{◌≡◌, ℕ, ◌+◌, ◌<◌, ◌≤◌, All, get_or, length, vec_capacity, vec_len}
use Rattle.std.specs.Vec.Iter.{into_iter_items, into_iter_len}
use Rattle.elsa_lock_free.specs.SharedList.{Continues}
use Rattle.elsa_program.specs.Workers.{Each, IsPromiseOf, IsWorkOf}
use Rattle.elsa_program.proofs.shared.join_all.Given as goal

-- The results so far are those of the joined workers, the other workers have their promises, and
-- there is capacity for all.
abbrev pub invariant-loop-handle : goal.invariant-loop-handle
invariant-loop-handle g l =
    let vector = l.fn.pass.vector in let before = l.fn.pass.seen in let done = vec_len l.done in let rest = into_iter_items l.handle-iterator in
    (done + into_iter_len l.handle-iterator ≡ into_iter_len l.initial.handle-iterator)
    × ((k : ℕ) (d : _) → k < length rest → let of = (get_or rest k d).promise in
    IsPromiseOf vector before l._count (done + k) of.vector.now of.pass.now.seen of.count of.worker)
    × Each (λ worker d. IsWorkOf vector before l._count worker d.pass d.fault) l.done.items
    × All (λ d. length d.pass.seen ≤ length l.pass.seen) l.done.items
    × Continues l.fn.pass l.pass
    × (into_iter_len l.initial.handle-iterator ≤ vec_capacity l.done)
    × (vec_capacity l.fn.done ≤ vec_capacity l.done)
