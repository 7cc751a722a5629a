use Rattle.std.proofs.Common.{◌≡◌, ◌+◌, true, refl, subst, sym}
use Rattle.std.specs.Prelude.{take}
use Rattle.std.proofs.lemmas.List.Elements.{all_zip_more}
use Rattle.elsa_tables.specs.Insertions.{IsCloneOf}
use Rattle.elsa_buckets.proofs.append_map.cloned_pairs.Goals as goal

pub loop-pair-preserved : goal.loop-pair-preserved
loop-pair-preserved g c =
    let eq = g.K.PartialEq.eq in
    let is_clone = g.K.Clone.is_clone in
    let cloned = c.in_ok-key.ensures.cases in
    let i = c.loop-pair.pair-index in
    subst (IsCloneOf eq is_clone (take (i + 1) c.args.pairs.now)) (sym c.in_ok-push.ensures.items)
    (all_zip_more (λ (p q : g.row.K.Denot × g.row.B.Denot). is_clone p.0 q.0 × (eq p.0 q.0 ≡ true) × (q.1 ≡ p.1)) c.args.pairs.now c.loop-pair.copy.items i
    c.pair-item.result (c.in_ok-key.key, c.pair-item.result.1) c.loop-pair-test.true c.pair-item.is c.loop-pair.invariant
    (cloned, c.requires.faithful _ _ cloned, refl))
