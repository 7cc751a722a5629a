use Rattle.std.proofs.Common.{◌≡◌, ◌<◌, ◌+◌, ℕ, inl, inr, length, replicate, rules, ap, subst, sym, ◌∙◌, arith}
use Rattle.std.proofs.Math.ListN.{get_or-replicate, length-replicate}
use Rattle.std.proofs.lemmas.Bool.{cases_lt}
use Rattle.std.proofs.lemmas.List.{get_or_default, with_items_is}
use Rattle.std.specs.Vec.{with_items}
use Rattle.elsa_buckets.specs.Groups.{empty_group, group_at, number_in, AllTakenBelow, StoresAll, TakenBelow}
use Rattle.elsa_buckets.proofs.GroupLemmas.{indexes_all, taken_none}
use Rattle.elsa_buckets.proofs.groups.filled.Goals as goal

pub loop-at-init : goal.loop-at-init
loop-at-init g c =
    let fresh : c.resize.new.self.items ≡ replicate c.args.count empty_group = search rules in
    let count : length c.resize.new.self.items ≡ c.args.count = ap length fresh ∙ length-replicate c.args.count empty_group in (
      λ i lt. absurd (omega arith),
      taken_none c.resize.new.self.items (length c.args.hashes.now) (λ i lt. ap (λ gs. group_at gs i) fresh ∙ get_or-replicate c.args.count i empty_group empty_group (omega (arith, lt, count))),
      count,
    )

pub enter_all-requires-clause-known : goal.enter_all-requires-clause-known
enter_all-requires-clause-known g c =
    subst (λ group. TakenBelow group (length c.args.hashes.now)) (sym (get_or_default c.args.old.now c.loop-at.at _ empty_group c.loop-at-test.true))
    (λ lane small taken. c.requires.only c.loop-at.at lane c.loop-at-test.true small taken)

pub enter_all-requires-clause-only : goal.enter_all-requires-clause-only
enter_all-requires-clause-only g c = subst (λ groups. AllTakenBelow groups (length c.args.hashes.now)) (sym c.as_mut_slice.ensures.value) c.loop-at.invariant.1

pub loop-at-preserved : goal.loop-at-preserved
loop-at-preserved g c =
    let at = c.loop-at.at in
    let old = c.args.old.now in
    let groups = c.enter_all.new.groups in
    let hashes = c.args.hashes.now in
    let count : length groups ≡ length c.loop-at.groups.items = c.enter_all.ensures.count ∙ ap length c.as_mut_slice.ensures.value in
    let whole : (with_items c.loop-at.groups groups).items ≡ groups = with_items_is c.loop-at.groups groups (count ∙ sym c.loop-at.groups.ok.0) in
    let entered : StoresAll groups hashes (group_at old at) 12 = subst (λ group. StoresAll groups hashes group 12) (get_or_default old at _ empty_group c.loop-at-test.true) c.in_ok-enter_all.ensures.entered in
    let stays : (i : ℕ) → i < at → StoresAll groups hashes (group_at old i) 12
    = λ i lower lane hash small taken has.
    c.enter_all.ensures.stays hash (number_in (group_at old i) lane)
    (subst (λ gs. StoresAll gs hashes (group_at old i) 12) (sym c.as_mut_slice.ensures.value) (c.loop-at.invariant.0 i lower) lane hash small taken has) in
    let all : (i : ℕ) → i < at + 1 → StoresAll groups hashes (group_at old i) 12
    = λ i lt. elim (cases_lt i at) [
      | inl lower ↦ stays i lower
      | inr ge ↦ let e : ◌≡◌ {A = ℕ} at i = omega arith in subst (λ n. StoresAll groups hashes (group_at old n) 12) e entered
    ] in
    subst (λ gs. ((i : ℕ) → i < at + 1 → StoresAll gs hashes (group_at old i) 12) × AllTakenBelow gs (length hashes) × (length gs ≡ c.args.count)) (sym whole)
    (all, c.enter_all.ensures.only, count ∙ c.loop-at.invariant.2)

pub returns-clause-indexes : goal.returns-clause-indexes
returns-clause-indexes g c =
    let last : c.loop-at.at ≡ length c.args.old.now = omega (arith, c.loop-at-test.false, c.loop-at.auto.at-end) in
    indexes_all c.args.old.now c.loop-at.groups.items c.args.hashes.now c.requires (λ i lt. c.loop-at.invariant.0 i (omega (arith, lt, last))) c.loop-at.invariant.1
