use Rattle.std.specs.Prelude.{◌≡◌, ℕ, length}
use Rattle.elsa_buckets.specs.Groups.{AllTakenBelow, Stores, StoresAll}
use Rattle.elsa_buckets.proofs.groups.enter_all.Given as goal

abbrev pub invariant-loop-lane : goal.invariant-loop-lane
invariant-loop-lane l = StoresAll l.groups l.hashes l.from l.lane × ((hash n : ℕ) → Stores l.initial.groups hash n → Stores l.groups hash n) × AllTakenBelow l.groups (length l.hashes) × (length l.groups ≡ length l.initial.groups)
