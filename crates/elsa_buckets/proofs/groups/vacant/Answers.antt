use Rattle.std.proofs.Common.{ap, ◌∙◌, arith}
use Rattle.elsa_buckets.specs.Groups.{tag_in}
use Rattle.elsa_buckets.proofs.GroupLemmas.{passes_full, read_group}
use Rattle.elsa_buckets.proofs.groups.vacant.Goals as goal

pub loop-step-preserved : goal.loop-step-preserved
loop-step-preserved c =
    let here = read_group c.args.groups.now c.args.hash c.loop-step.step c.walk-at.result _ c.walk-at.ensures.within c.walk-at.ensures.group in
    passes_full c.args.groups.now c.args.hash c.loop-step.step c.loop-step.invariant
    (λ k small free. c.first_with-lane.ensures.absent (omega arith) k small (ap (λ g. tag_in g k) here ∙ free))
