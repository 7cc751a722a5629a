use Rattle.std.proofs.Common.{◌≡◌, ◌+◌, ◌*◌, ◌<◌, slice_index, inl, inr, refl, ap, subst, sym, ◌∙◌, arith}
use Rattle.std.proofs.lemmas.Bool.{cases_eq}
use Rattle.elsa_hash_index.specs.Words.{tag_of, groups_of, number_of, IsIndexed, IsLater}
use Rattle.elsa_hash_index.proofs.WordLemmas.{entry_within, filled_more, later_goes_on, later_later, later_same, slot_is, still, tag_positive, tried_all, tried_one}
use Rattle.elsa_hash_index.proofs.probe.enter.Goals.{else-number-eq0-via-then-number-eq0+else-set_tag, else-number-eq0-via-else-number-eq0}
use Rattle.elsa_hash_index.proofs.probe.enter.Goals as goal

pub loop-free-init : goal.loop-free-init
loop-free-init g c =
    let free = c.lanes_with-free.ensures in (
      refl,
      refl,
      later_same _,
      record {
        only = λ k set. (free.only k set).0;
        others = λ k lt here. elim (cases_eq (slice_index c.tags-tags.result k) 0) [
          | inl zero ↦ inl (free.all k lt zero)
          | inr some ↦ let pos : 0 < slice_index c.tags-tags.result k = omega (arith, some) in let e = c.tags-tags.ensures.tags k lt pos in inr (omega (arith, e, pos))
        ];
      },
    )

pub number-requires : goal.number-requires
number-requires g c =
    entry_within _ _ _ _ _ c.walked-group.ensures.within (c.groups-count.ensures ∙ ap (λ n. groups_of n) c.len.ensures) (c.loop-free.invariant.0 ∙ (c.tags-tags.ensures.same.0 ∙ c.loop-step.invariant.0))
    (c.loop-free.invariant.3.only c.first_of.result c.first_of.ensures.set)

pub set_tag-requires : goal.set_tag-requires
set_tag-requires g c = (
  entry_within _ _ _ _ _ c.walked-group.ensures.within (c.groups-count.ensures ∙ ap (λ n. groups_of n) c.len.ensures)
      (c.number.ensures.same.0 ∙ (c.loop-free.invariant.0 ∙ (c.tags-tags.ensures.same.0 ∙ c.loop-step.invariant.0))) (c.loop-free.invariant.3.only c.first_of.result c.first_of.ensures.set),
  c.tagged-tag.ensures.within.0,
  c.tagged-tag.ensures.within.1,
)

pub set_number-requires : goal.set_number-requires
set_number-requires g c = (
  entry_within _ _ _ _ _ c.walked-group.ensures.within (c.groups-count.ensures ∙ ap (λ n. groups_of n) c.len.ensures)
      (c.set_tag.ensures.same.0 ∙ (c.number.ensures.same.0 ∙ (c.loop-free.invariant.0 ∙ (c.tags-tags.ensures.same.0 ∙ c.loop-step.invariant.0))))
      (c.loop-free.invariant.3.only c.first_of.result c.first_of.ensures.set),
  omega arith,
  c.requires.limit,
)

pub tag-requires : goal.tag-requires
tag-requires g c =
    let count = g.W.Words.count in
    let n = c.number.ensures in
    let same : count c.else-number-eq0.words ≡ count c.loop-free.words = elim c.else-number-eq0.branch [
      | else-number-eq0-via-then-number-eq0+else-set_tag w ↦ ap count w.words-is ∙ (w.set_tag.ensures.same.0 ∙ n.same.0)
      | else-number-eq0-via-else-number-eq0 w ↦ ap count w.words-is ∙ n.same.0
    ] in
    entry_within _ _ _ _ _ c.walked-group.ensures.within (c.groups-count.ensures ∙ ap (λ n. groups_of n) c.len.ensures)
    (same ∙ (c.loop-free.invariant.0 ∙ (c.tags-tags.ensures.same.0 ∙ c.loop-step.invariant.0))) (c.loop-free.invariant.3.only c.first_of.result c.first_of.ensures.set)

pub returns-then-set_number-clause-entered : goal.returns-then-set_number-clause-entered
returns-then-set_number-clause-entered g c =
    let inv = c.loop-step.invariant in
    let t = c.tags-tags.ensures in
    let free = c.loop-free.invariant in
    let n = c.number.ensures in
    let s = c.set_tag.ensures in
    let e = c.set_number.ensures in
    let count = g.W.Words.count c.args.words.now in
    let after = g.W.Words.known c.set_number.new.self in
    let hash = c.args.hash in
    let step = c.loop-step.step in
    let lane = c.first_of.result in
    let at = 16 * c.walked-group.result + lane in
    let here = slot_is count _ _ hash step _ c.len.ensures c.groups-count.ensures c.walked-group.ensures.group lane in
    let counted = s.same.0 ∙ (n.same.0 ∙ (free.0 ∙ (t.same.0 ∙ inv.0))) in
    let later = later_later _ _ _ t.later (later_later _ _ _ free.2 (later_later _ _ _ n.later (later_later _ _ _ s.later e.later))) in
    subst (λ k. IsIndexed k after hash c.args.index) (sym (e.same.0 ∙ counted)) (record {
      step = step;
      lane = lane;
      within = omega (arith, c.loop-step-test.true, c.groups-count.ensures, c.len.ensures);
      in_group = free.3.only lane c.first_of.ensures.set;
      tagged = ap after (sym here) ∙ still (g.W.Words.known c.set_tag.new.self) after at (tag_of hash) e.later (s.set c.if-set_tag.true ∙ c.tagged-tag.ensures.tag) (tag_positive hash);
      there = ap (λ i. after (number_of count i)) (sym here) ∙ (ap (λ k. after (number_of k at)) (sym counted) ∙ e.set c.if-set_number.true);
      goes_on = later_goes_on count _ after hash step later inv.3;
    })

pub loop-free-preserved : goal.loop-free-preserved
loop-free-preserved g c =
    let free = c.loop-free.invariant in
    let r = c.rest_of-free.ensures in
    let e = c.tag.ensures in
    let count = g.W.Words.count in
    let whose = g.W.Words.whose in
    let known = g.W.Words.known in
    let before = g.W.Words.known c.loop-free.words in
    let n = c.number.ensures in
    let touched : (count c.else-number-eq0.words ≡ count c.loop-free.words) × (whose c.else-number-eq0.words ≡ whose c.loop-free.words) × IsLater before (known c.else-number-eq0.words) = elim c.else-number-eq0.branch [
      | else-number-eq0-via-then-number-eq0+else-set_tag w ↦
          let s = w.set_tag.ensures in
          (ap count w.words-is ∙ (s.same.0 ∙ n.same.0), ap whose w.words-is ∙ (s.same.1 ∙ n.same.1), subst (λ z. IsLater before (known z)) (sym w.words-is) (later_later _ _ _ n.later s.later))
      | else-number-eq0-via-else-number-eq0 w ↦ (ap count w.words-is ∙ n.same.0, ap whose w.words-is ∙ n.same.1, subst (λ z. IsLater before (known z)) (sym w.words-is) n.later)
    ] in
    let later = later_later _ _ _ touched.2 e.later in
    let ne = c.if-tag-eq0.false in
    let is = e.tag in (
      e.same.0 ∙ (touched.0 ∙ free.0),
      e.same.1 ∙ (touched.1 ∙ free.1),
      later_later _ _ _ free.2 later,
      tried_one _ c.loop-free.free c.rest_of-free.result c.first_of.result _ _ free.3 r.only (λ k set ne. r.others k set (λ e. ne (e ∙ sym c.first_of.ensures.value)))
          (λ k pos. let e = later (16 * c.walked-group.result + k) pos in omega (arith, e, pos)) (omega (arith, is, ne)),
    )

pub loop-step-preserved : goal.loop-step-preserved
loop-step-preserved g c =
    let inv = c.loop-step.invariant in
    let t = c.tags-tags.ensures in
    let free = c.loop-free.invariant in
    let count = g.W.Words.count c.args.words.now in
    let known = g.W.Words.known c.loop-free.words in
    let hash = c.args.hash in
    let step = c.loop-step.step in
    let here = slot_is count _ _ hash step _ c.len.ensures c.groups-count.ensures c.walked-group.ensures.group in
    let later = later_later _ _ _ t.later free.2 in (
      free.0 ∙ (t.same.0 ∙ inv.0),
      free.1 ∙ (t.same.1 ∙ inv.1),
      later_later _ _ _ inv.2 later,
      filled_more count known hash step (later_goes_on count _ known hash step later inv.3)
          (λ lane small. subst (λ n. 0 < known n) (here lane) (tried_all (λ k. k < 16) c.loop-free.free _ free.3 c.loop-free-test.false lane small small)),
    )
