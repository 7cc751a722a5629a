use Rattle.std.proofs.Common.{◌≡◌, ◌≤◌, All, length, vec_capacity, vec_len}
use Rattle.elsa_program.specs.Workers.{Each, IsWorkOf}
use Rattle.elsa_program.proofs.shared.add_unstarted.Given as goal

-- The results so far are those of the workers, and `pass` is unchanged.
abbrev pub invariant-loop : goal.invariant-loop
invariant-loop g l =
    (l.pass ≡ l.fn.pass)
    × (vec_len l.done ≡ l.counter)
    × (l.workers ≤ vec_capacity l.done)
    × Each (λ worker d. IsWorkOf l.vector l._begun.seen l._count worker d.pass d.fault) l.done.items
    × All (λ d. length d.pass.seen ≤ length l.pass.seen) l.done.items
