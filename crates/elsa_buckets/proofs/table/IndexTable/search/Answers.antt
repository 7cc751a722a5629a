use Rattle.std.proofs.Common.{◌≡◌, ◌<◌, ℕ, Some, false, length, slice_get, ap, subst, sym, ◌∙◌, of_calls, arith}
use Rattle.elsa_buckets.specs.Groups.{hash_tag, tag_in, Indexes}
use Rattle.elsa_buckets.proofs.GroupLemmas.{Tried, TriedBefore, passes_next, index_within, read_group, tried_all, tried_next, tried_to_end, tried_everywhere}
use Rattle.elsa_buckets.proofs.table.IndexTable.search.Goals as goal

pub is_it-requires : goal.is_it-requires
is_it-requires g c =
    let indexes = subst (λ l. Indexes l c.self.inside.hashes.items) (sym c.as_slice-groups.ensures.value) c.self.invariant.0 in
    let within = index_within c.as_slice-groups.result.now c.self.inside.hashes.items indexes c.walk-at.result c.first_of.result c.tag_of-tag.result c.args.hash c.number-index.result _
    c.walk-at.ensures.within (c.loop-same.invariant.only c.first_of.result c.first_of.ensures.set) c.tag_of-tag.ensures c.number-index.ensures in
    search (of_calls, c.requires c.number-index.result (subst (λ t. c.number-index.result < length t.1) c.self.view_is within))

pub returns-then-is_it-clause-found : goal.returns-then-is_it-clause-found
returns-then-is_it-clause-found g c =
    let indexes = subst (λ l. Indexes l c.self.inside.hashes.items) (sym c.as_slice-groups.ensures.value) c.self.invariant.0 in
    let within = index_within c.as_slice-groups.result.now c.self.inside.hashes.items indexes c.walk-at.result c.first_of.result c.tag_of-tag.result c.args.hash c.number-index.result _
    c.walk-at.ensures.within (c.loop-same.invariant.only c.first_of.result c.first_of.ensures.set) c.tag_of-tag.ensures c.number-index.ensures in
    (subst (λ t. c.number-index.result < length t.1) c.self.view_is within, subst (goal.F-post g c.args.is_it c.number-index.result) c.if-is_it.true c.is_it.ensures)

pub returns-then-free-ne0-clause-absent : goal.returns-then-free-ne0-clause-absent
returns-then-free-ne0-clause-absent g c index has =
    let M = λ (p : ℕ). goal.F-post g c.args.is_it p false in
    let groups = c.as_slice-groups.result.now in
    let hash = c.args.hash in
    let step = c.loop-step.step in
    let indexes = subst (λ l. Indexes l c.self.inside.hashes.items) (sym c.as_slice-groups.ensures.value) c.self.invariant.0 in
    let here = read_group groups hash step c.walk-at.result _ c.walk-at.ensures.within c.walk-at.ensures.group in
    let tried = tried_all M _ c.tag_of-tag.result c.loop-same.same c.loop-same.invariant (omega (arith, c.loop-same-test.false)) in
    let before = tried_next M groups hash step c.loop-step.invariant.1 (subst (λ x. Tried M x (hash_tag hash)) here (subst (Tried M _) c.tag_of-tag.ensures tried)) in
    let free = c.with_tag-free.ensures.only c.first_of-lane.result c.first_of-lane.ensures.set in
    tried_to_end M groups c.self.inside.hashes.items indexes hash index (subst (λ t. slice_get t.1 index ≡ Some hash) (sym c.self.view_is) has) step c.first_of-lane.result before free.0
    (ap (λ x. tag_in x c.first_of-lane.result) (sym here) ∙ free.1)

pub loop-step-preserved : goal.loop-step-preserved
loop-step-preserved g c =
    let M = λ (p : ℕ). goal.F-post g c.args.is_it p false in
    let groups = c.as_slice-groups.result.now in
    let hash = c.args.hash in
    let step = c.loop-step.step in
    let here = read_group groups hash step c.walk-at.result _ c.walk-at.ensures.within c.walk-at.ensures.group in
    let tried = tried_all M _ c.tag_of-tag.result c.loop-same.same c.loop-same.invariant (omega (arith, c.loop-same-test.false)) in (
      passes_next groups hash step c.with_tag-free.result c.loop-step.invariant.0 (omega (arith, c.if-free-ne0.false)) (λ k small free. c.with_tag-free.ensures.all k small (ap (λ x. tag_in x k) here ∙ free)),
      tried_next M groups hash step c.loop-step.invariant.1 (subst (λ x. Tried M x (hash_tag hash)) here (subst (Tried M _) c.tag_of-tag.ensures tried)),
    )

pub returns-clause-absent : goal.returns-clause-absent
returns-clause-absent g c index has =
    let M = λ (p : ℕ). goal.F-post g c.args.is_it p false in
    let groups = c.as_slice-groups.result.now in
    let indexes = subst (λ l. Indexes l c.self.inside.hashes.items) (sym c.as_slice-groups.ensures.value) c.self.invariant.0 in
    let ended : c.loop-step.step ≡ length groups = omega arith in
    tried_everywhere M groups c.self.inside.hashes.items indexes c.args.hash index (subst (λ t. slice_get t.1 index ≡ Some c.args.hash) (sym c.self.view_is) has)
    (subst (TriedBefore M groups c.args.hash) ended c.loop-step.invariant.1)
