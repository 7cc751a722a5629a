use Rattle.std.proofs.Common.{◌≡◌}
use Rattle.elsa_bench.proofs.vector.read_growing.Given as goal

abbrev pub invariant-loop-turn : goal.invariant-loop-turn
invariant-loop-turn l = l.pass.vector ≡ l.vector
