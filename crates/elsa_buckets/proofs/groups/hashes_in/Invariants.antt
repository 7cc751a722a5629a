use Rattle.std.specs.Prelude.{◌≡◌, ◌<◌, ℕ, length, slice_index}
use Rattle.elsa_buckets.specs.Groups.{number_in}
use Rattle.elsa_buckets.proofs.groups.hashes_in.Given as goal

abbrev pub invariant-loop-lane : goal.invariant-loop-lane
invariant-loop-lane l = ((k : ℕ) → k < l.lane → slice_index l.read k ≡ slice_index l.hashes (number_in l.group k)) × (length l.read ≡ 12)
