use Rattle.std.proofs.Common.{◌-◌, ◌<◌, ◌^◌, subst, sym, ◌∙◌}
use Rattle.std.specs.Prelude.{IfOk, OnErr}
use Rattle.elsa_lock_free.specs.SharedList.{items_of}
use Rattle.elsa_lock_free_map.specs.Entries.{InsertsAt, Lacks}
use Rattle.elsa_lock_free_map.proofs.interner.SharedInterner.put.Goals as goal

pub returns-clause-numbered : goal.returns-clause-numbered
returns-clause-numbered g c =
    let same = c.of-handle.ensures.same_view ∙ c.replace.ensures.value in
    let after = subst (λ w. IfOk c.put-answer.result (λ i. InsertsAt g.T.PartialEq.eq c.of-handle.result w c.args.name i × (i < 2 ^ 32 - 1))) (sym c.into_pass.ensures.same_view) c.put-answer.ensures.numbered in
    subst (λ w. IfOk c.put-answer.result (λ i. InsertsAt g.T.PartialEq.eq w c.into_pass.result c.args.name i × (i < 2 ^ 32 - 1))) same after

pub returns-clause-only_new : goal.returns-clause-only_new
returns-clause-only_new g c =
    subst (λ w. OnErr c.put-answer.result (Lacks g.T.PartialEq.eq (items_of w.seen) c.args.name)) (c.of-handle.ensures.same_view ∙ c.replace.ensures.value) c.put-answer.ensures.only_new
