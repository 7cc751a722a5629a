use Rattle.std.proofs.Common.{false}
use Rattle.elsa_buckets.specs.Groups.{PassesFull}
use Rattle.elsa_buckets.proofs.GroupLemmas.{TriedBefore, Untried}
use Rattle.elsa_buckets.proofs.table.IndexTable.search.Given as goal

abbrev pub invariant-loop-step : goal.invariant-loop-step
invariant-loop-step g l = PassesFull l.groups l.hash l.step × TriedBefore (λ index. goal.F-post g l.is_it index false) l.groups l.hash l.step

abbrev pub invariant-loop-same : goal.invariant-loop-same
invariant-loop-same g l = Untried (λ index. goal.F-post g l.is_it index false) l.group l.tag l.same

abbrev pub decreases-loop-same : goal.decreases-loop-same
decreases-loop-same g l = l.same
