use Rattle.std.proofs.Common.{◌≡◌}
use Rattle.elsa_bench.proofs.vector.push_beside.Given as goal

abbrev pub invariant-loop-item : goal.invariant-loop-item
invariant-loop-item g l = l.pass.vector ≡ l.vector
