use Rattle.std.proofs.Common.{◌≡◌, ◌+◌, ◌≤◌, length}
use Rattle.std.specs.Prelude.{vec_capacity}
use Rattle.elsa_hash_index.specs.Row.{named_from}
use Rattle.elsa_hash_index.proofs.row.Row.new.Given as goal

-- The words so far, the pens of the others, and capacity for all.
abbrev pub invariant-loop : goal.invariant-loop
invariant-loop g l =
    (l.pens.book ≡ l.first.book) × (l.pens.next ≡ l.counter) × (l.pens.left + l.counter ≡ l.number)
    × (l.words.items ≡ named_from l.first.book 0 l.counter) × (length l.words.items ≡ l.counter) × (l.number ≤ vec_capacity l.words)
