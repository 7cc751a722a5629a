use Rattle.std.proofs.Common.{◌≡◌, ◌+◌, ◌&&◌, suc, ℕ, Bool, List, drop, ap, sym, ◌∙◌, arith}
use lib.Pointwise.{pointwise}
use Rattle.elsa_lock_free.proofs.ListLemmas.Pointwise.{pointwise_step}
use Rattle.elsa_lock_free.proofs.atomic_list.AtomicList+T+A+K.has_items_of.Goals as goal

pub loop-equal-preserved : goal.loop-equal-preserved
loop-equal-preserved g c =
    let inv = c.loop-equal.invariant in let E = g.T.PartialEq.eq in let i = c.loop-equal.index in
    let xs : List g.row.T.Denot = c.args.prefix.now.items in let ys : List g.row.T.Denot = c.args.other_prefix.now.items in
    let step = pointwise_step E xs ys i c.item-item.result.now c.item-other_item.result.now c.item-item.ensures c.item-other_item.ensures in
    let now : pointwise E xs ys ≡ pointwise E (drop i xs) (drop i ys) = inv.1 ∙ ap (λ (b : Bool). b && pointwise E (drop i xs) (drop i ys)) c.loop-equal-test.true in
    let same = ap (λ (b : Bool). b && pointwise E (drop (suc i) xs) (drop (suc i) ys)) (sym c.eq-equal.ensures) in
    let next : suc i ≡ i + 1 = omega arith in let low = c.if-index-n.true in
    (omega (arith, low), now ∙ (step ∙ (same ∙ ap (λ (k : ℕ). c.eq-equal.result && pointwise E (drop k xs) (drop k ys)) next)))
