use Rattle.std.proofs.Common.{◌∙◌, position, sym}
use Rattle.std.proofs.lemmas.Iterator.Adapters.{YieldsList-from_vec}
use Rattle.std.proofs.lemmas.Iterator.Consumers.{YieldsList-end}
use Rattle.std.specs.Map.{keys_of, lookup}
use Rattle.elsa_tables.specs.Insertions.{Grows}
use Rattle.elsa_tables.proofs.Growing.{found_all, found_more, grows_on, keys_grow, index_stays, value_stays}
use Rattle.elsa_index.proofs.Laws.{told_again}
use Rattle.elsa_index.proofs.index_laws.is_new_once.Goals as goal

pub loop-pair-preserved : goal.loop-pair-preserved
loop-pair-preserved g c =
    let kept = c.keeps_earlier_pairs-in-loop-pair.ensures.kept in
    record {
      between = found_more (λ pair. g.K.PartialEq.eq pair.0) _ _ (keys_grow _ _ kept) c.loop-pair.yielded c.loop-pair.invariant.between c.in-Some.pair _ c.in_ok-keeps_earlier_pairs.ensures.index_after;
      kept = grows_on _ _ _ c.loop-pair.invariant.kept kept;
    }

-- What the first insertion left is unchanged at the end.
later : (g : _) (c : goal.In_ok-after g) → Grows c.keeps_earlier_pairs.new.map c.keeps_earlier_pairs-2.new.map
later g c = grows_on _ _ _ c.loop-pair.invariant.kept c.keeps_earlier_pairs-2.ensures.kept

pub returns-clause-found_after : goal.returns-clause-found_after
returns-clause-found_after g c = value_stays _ _ _ _ (later g c) c.in_ok-before.ensures.found_after

pub returns-clause-index_after : goal.returns-clause-index_after
returns-clause-index_after g c = index_stays _ _ _ _ (keys_grow _ _ (later g c)) c.in_ok-before.ensures.index_after

pub returns-clause-once : goal.returns-clause-once
returns-clause-once g c =
    let before = index_stays _ _ _ _ (keys_grow _ _ c.loop-pair.invariant.kept) c.in_ok-before.ensures.index_after in
    told_again (λ t. position t (keys_of c.keeps_earlier_pairs-2.new.map)) (λ t. position t (keys_of c.loop-pair.map)) (λ t i. lookup t c.keeps_earlier_pairs-2.new.map) _ _
    (sym (λ i k. g.met.K.Eq.laws.congr c.args.first.0 c.args.again.0 k c.requires.equal i)) _ _ _
    (returns-clause-index_after g c) (returns-clause-found_after g c) before c.in_ok-after.ensures.index_after c.in_ok-after.ensures.found_after c.in_ok-after.ensures.flag

pub returns-clause-between : goal.returns-clause-between
returns-clause-between g c =
    let it = c.into_iter-pair-iterator.ensures.into_iter_gives in
    let t = YieldsList-end (YieldsList-from_vec {s = c.into_iter-pair-iterator.result} c.args.between.items it.0 (it.1 ∙ c.args.between.ok.0)) c.loop-pair.yielded c.loop-pair.pair-iterator c.loop-pair.yielded_by c.next.result c.next.new.self c.in-None.is c.next.ensures.steps in
    found_all (λ pair. g.K.PartialEq.eq pair.0) _ _ (keys_grow _ _ c.keeps_earlier_pairs-2.ensures.kept) c.loop-pair.yielded c.loop-pair.invariant.between c.args.between.items t.0
