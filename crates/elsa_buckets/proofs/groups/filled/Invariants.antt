use Rattle.std.specs.Prelude.{◌≡◌, ◌<◌, ℕ, length}
use Rattle.elsa_buckets.specs.Groups.{group_at, AllTakenBelow, StoresAll}
use Rattle.elsa_buckets.proofs.groups.filled.Given as goal

abbrev pub invariant-loop-at : goal.invariant-loop-at
invariant-loop-at g l = ((i : ℕ) → i < l.at → StoresAll l.groups.items l.hashes (group_at l.old i) 12) × AllTakenBelow l.groups.items (length l.hashes) × (length l.groups.items ≡ l.count)
