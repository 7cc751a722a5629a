use Rattle.std.proofs.Common.{◌≡◌}
use mathlib.Core.List.{IsPrefix}
use Rattle.elsa_lock_free.specs.OneWord.{word_of}
use Rattle.elsa_lock_free.proofs.atomic_list.AtomicList.acquire_at.Given as goal

-- the loop continues, the observed history only grows, and the word that was read is the word of this history
abbrev pub invariant-loop : goal.invariant-loop
invariant-loop g l =
    (goal.iterator-loop g).can_next l.iterator' × (goal.iterator-loop g).is_finite l.iterator'
    × (l.seen.book ≡ l.initial.seen.book) × (l.seen.names ≡ l.initial.seen.names) × IsPrefix l.initial.seen.log l.seen.log × (l.found ≡ word_of l.seen.log)
