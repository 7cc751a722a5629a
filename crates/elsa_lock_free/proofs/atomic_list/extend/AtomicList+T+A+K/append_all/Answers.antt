use Rattle.std.proofs.Common.{◌≡◌, ◌++◌, ◌+◌, List, ℕ, true, Some, length, length-append, take, refl, ap, sym, subst, ◌∙◌, arith}
use Rattle.std.proofs.lemmas.List.{length-take}
use Rattle.std.proofs.Math.Nat.{min-eq_left}
use Rattle.elsa_slots.specs.Geometry.{slots_before}
use Rattle.elsa_slots.specs.Ahead.{GoesOn, IsClosedAt}
use Rattle.elsa_lock_free.specs.declared.event.Event.TheVariants.{Acquired}
use Rattle.elsa_lock_free.specs.History.{added, is_held, list_of}
use Rattle.elsa_lock_free.specs.Rights.{buffer_slots_of, head}
use Rattle.elsa_lock_free.proofs.RuleLemmas.History.{held_snoc, items_length}
use Rattle.elsa_lock_free.proofs.RuleLemmas.HoldEnd.{acquired_list}
use Rattle.elsa_lock_free.proofs.atomic_list.extend.AtomicList+T+A+K.append_all.Goals as goal

pub append-ahead-requires-clause-prefix : goal.append-ahead-requires-clause-prefix
append-ahead-requires-clause-prefix g c =
    let slots = ap buffer_slots_of c.requires.same_vector.1 ∙ c.args.self.now.buffer_slots_are in let n : length (list_of c.args.seen.log) ≡ c.args.n = ap length (acquired_list c.args.right.answer c.args.seen.log c.requires.right.1) ∙ sym c.requires.length.0 in
    let old = c.evidence-prefix.ensures in (old.0 ∙ slots, ap length old.1 ∙ (items_length (list_of c.args.seen.log) ∙ n))

pub offer_extend_open-offer-requires : goal.offer_extend_open-offer-requires
offer_extend_open-offer-requires g c =
    let slots = ap buffer_slots_of c.requires.same_vector.1 ∙ c.args.self.now.buffer_slots_are in let n : length (list_of c.args.seen.log) ≡ c.args.n = ap length (acquired_list c.args.right.answer c.args.seen.log c.requires.right.1) ∙ sym c.requires.length.0 in
    let all = c.append-ahead.ensures in let old = c.evidence-prefix.ensures in let held = c.take_acquired-held.ensures.held in
    let begin : length c.evidence-prefix.result.items ≡ c.args.n = ap length old.1 ∙ (items_length (list_of c.args.seen.log) ∙ n) in
    let many = length-take c.append-ahead.result.1 c.args.items.now ∙ min-eq_left all.count.0 in let both = length-append c.evidence-prefix.result.items (take c.append-ahead.result.1 c.args.items.now) in
    let end : c.args.n + c.append-ahead.result.1 ≡ length c.append-ahead.new.prefix.items = let w = ap length all.written.1 in omega (arith, w, both, many, begin) in
    let ahead = subst (λ (m : ℕ). GoesOn (buffer_slots_of c.args.seen.names) m (Some c.in-Some.opened) c.append-ahead.result.0.slots.of c.append-ahead.result.0.further.of) end
    (subst (λ (b : List ℕ). GoesOn b (c.args.n + c.append-ahead.result.1) (Some c.in-Some.opened) c.append-ahead.result.0.slots.of c.append-ahead.result.0.further.of) (sym slots) (subst (λ o. GoesOn c.args.self.now.slots (c.args.n + c.append-ahead.result.1) o c.append-ahead.result.0.slots.of c.append-ahead.result.0.further.of) c.in-Some.is all.ahead)) in
    (held.0 ∙ ap head c.requires.right.0, held.1 ∙ ap added (sym c.requires.right.1), all.written.0 ∙ sym slots, (take c.append-ahead.result.1 c.args.items.now, ap (λ (l : List g.row.T.Denot). l ++ take c.append-ahead.result.1 c.args.items.now) (sym old.1) ∙ sym all.written.1), ahead)

pub publish_all-seen-requires-clause-same_vector : goal.publish_all-seen-requires-clause-same_vector
publish_all-seen-requires-clause-same_vector g c = (c.requires.same_vector, ap is_held c.requires.right.1 ∙ held_snoc true c.args.right.answer Acquired)

pub publish_all-seen-requires-clause-length : goal.publish_all-seen-requires-clause-length
publish_all-seen-requires-clause-length g c = (sym (ap length (acquired_list c.args.right.answer c.args.seen.log c.requires.right.1) ∙ sym c.requires.length.0), c.append-ahead.ensures.count.1)

pub offer_extend_closed-offer-requires : goal.offer_extend_closed-offer-requires
offer_extend_closed-offer-requires g c =
    let slots = ap buffer_slots_of c.requires.same_vector.1 ∙ c.args.self.now.buffer_slots_are in let n : length (list_of c.args.seen.log) ≡ c.args.n = ap length (acquired_list c.args.right.answer c.args.seen.log c.requires.right.1) ∙ sym c.requires.length.0 in
    let all = c.append-ahead.ensures in let old = c.evidence-prefix.ensures in let held = c.take_acquired-held.ensures.held in
    let begin : length c.evidence-prefix.result.items ≡ c.args.n = ap length old.1 ∙ (items_length (list_of c.args.seen.log) ∙ n) in
    let many = length-take c.append-ahead.result.1 c.args.items.now ∙ min-eq_left all.count.0 in let both = length-append c.evidence-prefix.result.items (take c.append-ahead.result.1 c.args.items.now) in
    let end : c.args.n + c.append-ahead.result.1 ≡ length c.append-ahead.new.prefix.items = let w = ap length all.written.1 in omega (arith, w, both, many, begin) in
    let ahead = subst (λ (m : ℕ). IsClosedAt (buffer_slots_of c.args.seen.names) m c.append-ahead.result.0.further.of) end
    (subst (λ (b : List ℕ). IsClosedAt b (c.args.n + c.append-ahead.result.1) c.append-ahead.result.0.further.of) (sym slots) (subst (λ o. GoesOn c.args.self.now.slots (c.args.n + c.append-ahead.result.1) o c.append-ahead.result.0.slots.of c.append-ahead.result.0.further.of) c.in-None.is all.ahead)) in
    (held.0 ∙ ap head c.requires.right.0, held.1 ∙ ap added (sym c.requires.right.1), all.written.0 ∙ sym slots, (take c.append-ahead.result.1 c.args.items.now, ap (λ (l : List g.row.T.Denot). l ++ take c.append-ahead.result.1 c.args.items.now) (sym old.1) ∙ sym all.written.1), ahead)

pub publish_all-seen-requires-in-None-clause-same_vector : goal.publish_all-seen-requires-in-None-clause-same_vector
publish_all-seen-requires-in-None-clause-same_vector g c = (c.requires.same_vector, ap is_held c.requires.right.1 ∙ held_snoc true c.args.right.answer Acquired)

pub publish_all-seen-requires-in-None-clause-length : goal.publish_all-seen-requires-in-None-clause-length
publish_all-seen-requires-in-None-clause-length g c = (sym (ap length (acquired_list c.args.right.answer c.args.seen.log c.requires.right.1) ∙ sym c.requires.length.0), c.append-ahead.ensures.count.1)

pub returns-in-Some-clause-refused : goal.returns-in-Some-clause-refused
returns-in-Some-clause-refused g c = λ less. let none = c.append-ahead.ensures.none less in (none.0, (slots_before none.1.0, (none.1.0, none.1.1, refl), none.1.2, none.1.3))

pub returns-in-None-clause-refused : goal.returns-in-None-clause-refused
returns-in-None-clause-refused g c = λ less. let none = c.append-ahead.ensures.none less in (none.0, (slots_before none.1.0, (none.1.0, none.1.1, refl), none.1.2, none.1.3))
