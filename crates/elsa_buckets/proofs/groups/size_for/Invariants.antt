use Rattle.elsa_buckets.specs.Groups.{IsFewest}
use Rattle.elsa_buckets.proofs.groups.size_for.Given as goal

abbrev pub invariant-loop : goal.invariant-loop
invariant-loop l = IsFewest l.from l.indices l.count
