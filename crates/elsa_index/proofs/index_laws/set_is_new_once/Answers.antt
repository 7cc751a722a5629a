use Rattle.std.proofs.Common.{◌∙◌, position, slice_get}
use Rattle.std.proofs.lemmas.Iterator.Adapters.{YieldsList-from_vec}
use Rattle.std.proofs.lemmas.Iterator.Consumers.{YieldsList-end}
use Rattle.elsa_tables.specs.Insertions.{Grows}
use Rattle.elsa_tables.proofs.Growing.{found_all, found_more, grows_on, item_stays, index_stays}
use Rattle.elsa_index.proofs.Laws.{told_again}
use Rattle.elsa_index.proofs.index_laws.set_is_new_once.Goals as goal

pub loop-value-preserved : goal.loop-value-preserved
loop-value-preserved g c =
    let kept = c.set_keeps_earlier_values-in-loop-value.ensures.kept in
    record {
      between = found_more g.T.LookUp.finds _ _ kept c.loop-value.yielded c.loop-value.invariant.between c.in-Some.value _ c.in_ok-set_keeps_earlier_values.ensures.index_after;
      kept = grows_on _ _ _ c.loop-value.invariant.kept kept;
    }

-- What the first insertion left is unchanged at the end.
later : (g : _) (c : goal.In_ok-last g) → Grows c.set_keeps_earlier_values.new.set c.set_keeps_earlier_values-2.new.set
later g c = grows_on _ _ _ c.loop-value.invariant.kept c.set_keeps_earlier_values-2.ensures.kept

pub returns-clause-found_after : goal.returns-clause-found_after
returns-clause-found_after g c = item_stays _ _ _ _ (later g c) c.in_ok-before.ensures.found_after

pub returns-clause-index_after : goal.returns-clause-index_after
returns-clause-index_after g c = index_stays _ _ _ _ (later g c) c.in_ok-before.ensures.index_after

pub returns-clause-once : goal.returns-clause-once
returns-clause-once g c =
    let before = index_stays _ _ _ _ c.loop-value.invariant.kept c.in_ok-before.ensures.index_after in
    told_again (λ t. position t c.set_keeps_earlier_values-2.new.set) (λ t. position t c.loop-value.set) (λ t i. slice_get c.set_keeps_earlier_values-2.new.set i) _ _ (λ i b. c.requires.equal b i) _ _ _
    (returns-clause-index_after g c) (returns-clause-found_after g c) before c.in_ok-last.ensures.index_after c.in_ok-last.ensures.found_after c.in_ok-last.ensures.flag

pub returns-clause-between : goal.returns-clause-between
returns-clause-between g c =
    let it = c.into_iter-value-iterator.ensures.into_iter_gives in
    let t = YieldsList-end (YieldsList-from_vec {s = c.into_iter-value-iterator.result} c.args.between.items it.0 (it.1 ∙ c.args.between.ok.0)) c.loop-value.yielded c.loop-value.value-iterator c.loop-value.yielded_by c.next.result c.next.new.self c.in-None.is c.next.ensures.steps in
    found_all g.T.LookUp.finds _ _ c.set_keeps_earlier_values-2.ensures.kept c.loop-value.yielded c.loop-value.invariant.between c.args.between.items t.0
