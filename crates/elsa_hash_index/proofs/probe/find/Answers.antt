use Rattle.std.proofs.Common.{◌≡◌, ℕ, ◌+◌, ◌*◌, ◌-◌, ◌<◌, ◌≤◌, false, inl, inr, refl, ap, subst, sym, ◌∙◌, arith}
use Rattle.std.specs.Int.{w64, trailing_zeros}
use Rattle.std_collections.proofs.IndexTableLemmas.Bits.{bit_trailing_zeros}
use Rattle.elsa_hash_index.specs.Words.{groups_of, number_of, IsLater}
use Rattle.elsa_hash_index.proofs.WordLemmas.{absent_at_zero, absent_at_end, entry_within, later_later, later_same, loaded_zero, missed_group, slot_is, still, tried_one}
use Rattle.elsa_hash_index.proofs.probe.find.Goals.{then-number-gt0+then-number-n+else-is_it, else-number-gt0}
use Rattle.elsa_hash_index.proofs.probe.find.Goals as goal

pub loop-same-init : goal.loop-same-init
loop-same-init g c =
    let same = c.lanes_with-same.ensures in
    (refl, refl, later_same _, record { only = λ k set. (same.only k set).0; others = λ k lt has. inl (same.all k lt has) })

pub number-number-requires : goal.number-number-requires
number-number-requires g c =
    entry_within _ _ _ _ _ c.walked-group.ensures.within (c.groups-count.ensures ∙ ap (λ n. groups_of n) c.len.ensures) (c.loop-same.invariant.0 ∙ (c.tags-tags.ensures.same.0 ∙ c.loop-step.invariant.0))
    (c.loop-same.invariant.3.only c.first_of.result c.first_of.ensures.set)

pub loop-same-preserved : goal.loop-same-preserved
loop-same-preserved g c =
    let inv = c.loop-step.invariant in
    let t = c.tags-tags.ensures in
    let f = c.loop-same.invariant in
    let p = c.number-number.ensures in
    let r = c.rest_of-same.ensures in
    let count = g.W.Words.count c.args.words.now in
    let before = g.W.Words.known c.args.words.now in
    let after = g.W.Words.known c.number-number.new.self in
    let at = 16 * c.walked-group.result + c.first_of.result in
    let later_after : IsLater before after = later_later _ _ _ inv.2 (later_later _ _ _ t.later (later_later _ _ _ f.2 p.later)) in
    let here : number_of (g.W.Words.count c.loop-same.words) at ≡ number_of count at = ap (λ n. number_of n at) (f.0 ∙ (t.same.0 ∙ inv.0)) in
    let number : (index : ℕ) → before (number_of count at) ≡ index + 1 → c.number-number.result ≡ index + 1 =
    λ index e. p.number ∙ (ap after here ∙ still before after (number_of count at) (index + 1) later_after e (omega arith)) in
    let tried : (index : ℕ) → before (number_of count at) ≡ index + 1 → index < c.args.n → goal.F-post g c.args.is_it index false =
    λ index there lt. let e = number index there in elim c.if-number-gt0.branch [
      | then-number-gt0+then-number-n+else-is_it w ↦ let less : c.number-number.result - 1 ≡ index = omega (arith, e) in
          subst (λ k. goal.F-post g c.args.is_it k false) less (subst (goal.F-post g c.args.is_it (c.number-number.result - 1)) w.if-is_it.false w.is_it.ensures)
      | else-number-gt0 w ↦ absurd (elim w.else-number-gt0.either [
        | inl more ↦ let over = more.1 in omega (arith, e, over, lt)
        | inr none ↦ omega (arith, e, none)
      ])
    ] in (
      p.same.0 ∙ f.0,
      p.same.1 ∙ f.1,
      later_later _ _ _ f.2 p.later,
      tried_one _ c.loop-same.same c.rest_of-same.result c.first_of.result _ _ f.3 r.only (λ k set ne. r.others k set (λ e. ne (e ∙ sym c.first_of.ensures.value))) (λ k done. done) tried,
    )

pub loop-step-preserved : goal.loop-step-preserved
loop-step-preserved g c =
    let inv = c.loop-step.invariant in
    let t = c.tags-tags.ensures in
    let f = c.loop-same.invariant in
    let count = g.W.Words.count c.args.words.now in
    let hash = c.args.hash in
    let here = slot_is count _ _ hash c.loop-step.step _ c.len.ensures c.groups-count.ensures c.walked-group.ensures.group in (
      f.0 ∙ (t.same.0 ∙ inv.0),
      f.1 ∙ (t.same.1 ∙ inv.1),
      later_later _ _ _ inv.2 (later_later _ _ _ t.later f.2),
      missed_group count _ _ c.tags-tags.result c.tagged-tag.result c.loop-same.same hash c.loop-step.step c.walked-group.result _ inv.2 t.known here c.tagged-tag.ensures.tag f.3 c.loop-same-test.false inv.3,
    )

pub returns-then-lanes_with-ne0-clause-absent : goal.returns-then-lanes_with-ne0-clause-absent
returns-then-lanes_with-ne0-clause-absent g c p lt indexed =
    let inv = c.loop-step.invariant in
    let t = c.tags-tags.ensures in
    let f = c.loop-same.invariant in
    let count = g.W.Words.count c.args.words.now in
    let before = g.W.Words.known c.args.words.now in
    let now = g.W.Words.known c.loop-step.words in
    let hash = c.args.hash in
    let step = c.loop-step.step in
    let M = λ (index : ℕ). index < c.args.n → goal.F-post g c.args.is_it index false in
    let here = slot_is count _ _ hash step _ c.len.ensures c.groups-count.ensures c.walked-group.ensures.group in
    let missed = missed_group count before now c.tags-tags.result c.tagged-tag.result c.loop-same.same hash step c.walked-group.result M inv.2 t.known here c.tagged-tag.ensures.tag f.3 c.loop-same-test.false inv.3 in
    let lane = trailing_zeros w64 c.lanes_with.result in
    let ne = c.if-lanes_with-ne0.true in
    let free = c.lanes_with.ensures.only lane (bit_trailing_zeros 64 c.lanes_with.result (omega (arith, ne)) c.lanes_with.type_inv) in
    let zero = ap now (sym (here lane)) ∙ loaded_zero now _ _ (t.known lane free.0) free.1 in
    absent_at_zero count before now hash step lane M inv.2 free.0 zero missed p indexed lt

pub returns-clause-absent : goal.returns-clause-absent
returns-clause-absent g c p lt indexed =
    let M = λ (index : ℕ). index < c.args.n → goal.F-post g c.args.is_it index false in
    let all : groups_of (g.W.Words.count c.args.words.now) ≤ c.loop-step.step = omega (arith, c.loop-step-test.false, c.groups-count.ensures, c.len.ensures) in
    absent_at_end (g.W.Words.count c.args.words.now) (g.W.Words.known c.args.words.now) c.args.hash c.loop-step.step M all c.loop-step.invariant.3 p indexed lt
