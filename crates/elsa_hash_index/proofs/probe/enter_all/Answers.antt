use Rattle.std.proofs.Common.{◌≡◌, ap, subst, sym, ◌∙◌, arith}
use Rattle.elsa_hash_index.specs.Words.{IsLater}
use Rattle.elsa_hash_index.proofs.WordLemmas.{more_indexed, later_later, later_same}
use Rattle.elsa_hash_index.proofs.probe.enter_all.Goals.{then-index-eq0+then-count-gt0+else-loop-next-test, else-index-eq0}
use Rattle.elsa_hash_index.proofs.probe.enter_all.Goals as goal

pub loop-next-preserved : goal.loop-next-preserved
loop-next-preserved g c =
    let inv = c.loop-next.invariant in
    let t = c.tag.ensures in
    let p = c.number.ensures in
    (p.same.0 ∙ (t.same.0 ∙ inv.0), p.same.1 ∙ (t.same.1 ∙ inv.1), later_later _ _ _ (later_later _ _ _ inv.2 t.later) p.later)

pub loop-index-preserved : goal.loop-index-preserved
loop-index-preserved g c =
    let inv = c.loop-index.invariant in
    let e = c.enter.ensures in
    let count = g.W.Words.count in
    let whose = g.W.Words.whose in
    let known = g.W.Words.known in
    let before = c.loop-index.words in
    let after = c.if-index-eq0.words in
    let touched : (count after ≡ count before) × (whose after ≡ whose before) × IsLater (known before) (known after) = elim c.if-index-eq0.branch [
      | else-index-eq0 w ↦ (ap count w.words-is, ap whose w.words-is, subst (λ z. IsLater (known before) (known z)) (sym w.words-is) (later_same (known before)))
      | then-index-eq0+then-count-gt0+else-loop-next-test w ↦
          let next = w.loop-next.invariant in
          (ap count w.words-is ∙ next.0, ap whose w.words-is ∙ next.1, subst (λ z. IsLater (known before) (known z)) (sym w.words-is) next.2)
    ] in (
      e.same.0 ∙ (touched.0 ∙ inv.0),
      e.same.1 ∙ (touched.1 ∙ inv.1),
      later_later _ _ _ inv.2 (later_later _ _ _ touched.2 e.later),
      more_indexed _ _ _ _ _ c.loop-index.index c.hash_of-in-loop-index.result (e.same.0 ∙ touched.0) (later_later _ _ _ touched.2 e.later) inv.3 c.hash_of-in-loop-index.ensures c.in_ok-enter.ensures.entered,
    )

pub returns-clause-entered : goal.returns-clause-entered
returns-clause-entered g c p lt = c.loop-index.invariant.3 p (omega (arith, c.loop-index-test.false, lt))
