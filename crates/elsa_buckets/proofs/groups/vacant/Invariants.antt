use Rattle.elsa_buckets.specs.Groups.{PassesFull}
use Rattle.elsa_buckets.proofs.groups.vacant.Given as goal

abbrev pub invariant-loop-step : goal.invariant-loop-step
invariant-loop-step l = PassesFull l.groups l.hash l.step
