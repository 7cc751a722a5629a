use Rattle.std.proofs.Common.{◌≡◌}
use Rattle.elsa_bench.proofs.vector.read_seen.Given as goal

abbrev pub invariant-loop-turn : goal.invariant-loop-turn
invariant-loop-turn g l = l.pass.vector ≡ l.vector
